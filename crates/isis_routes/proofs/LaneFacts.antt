-- What decides the routes of the routers of a lane.
use Rattle.std.proofs.lemmas.Grind.{common_steps}
use Rattle.std.proofs.Common.{◌≡◌, ℕ, ◌+◌, ◌<◌, ◌≤◌, inl, ⊎_elim, List, [], ◌∷◌, length, get_or, Some, refl, sym, ap, subst, ◌∙◌, arith}
use Rattle.std.proofs.lemmas.List.{take_all, take_more}
use Rattle.std.specs.List.{Any}
use Rattle.std.proofs.lemmas.List.Elements.{All-contains}
use Rattle.net_addr.specs.Addresses.{Block}
use Rattle.net_model.specs.Network.{Connected}
use Rattle.walk_core.specs.declared.offers.Offer.{Offer}
use Rattle.route_core.specs.declared.entry.Entry.{Entry}
use Rattle.igp_theory.specs.Isis.{HasDownRoute, HasLevelOneRoute, HasLevelTwoRoute, IsisEntry, RunsLevelOne, RunsLevelTwo}
use Rattle.route_tables.specs.Lanes.{DecidesAt, DecidesRoute, LeadToBest}
use Rattle.route_tables.specs.declared.lane.Decision.{Decision}
use Rattle.route_tables.specs.declared.lane.Decision.TheVariants.{Nothing, NothingBut, One as OneOffer, Two as TwoOffers, Unknown}
use Rattle.route_tables.specs.declared.route.Route.TheVariants.{Through, Towards}
use Rattle.route_tables.proofs.ListFacts.{any_in_one, any_in_two, the_one}
use Rattle.isis_routes.specs.steps.Destinations.{HasAnnouncements}
use Rattle.isis_routes.specs.steps.Domain.{IsisDomain, IsKnown}
use Rattle.isis_routes.specs.steps.Homes.{AreRoutersAt}
use Rattle.isis_routes.specs.steps.Lanes.{IsDecisionAmong, IsDecisionBy, IsDecisionOf, IsInLane, MakesOne, made_at_homes, left_open, of_one, of_down}
use Rattle.isis_routes.specs.steps.Lanes.{first_zone, lane_number}
use Rattle.isis_routes.specs.steps.LevelReach.{level_reach}
use Rattle.isis_routes.specs.steps.Levels.{RunsLevel, zone_number}
use Rattle.isis_routes.specs.steps.Offered.{AreSmall}
use Rattle.isis_routes.specs.steps.Routes.{IsIsisRoute, LeadIn, given_by_isis, in_level}
use Rattle.isis_routes.specs.declared.destinations.Destination.{Destination}
use Rattle.isis_routes.specs.declared.lanes.LevelLane.{LevelLane}
use Rattle.isis_routes.specs.declared.lanes.LevelLane.TheVariants.{OneAlone, TwoAlone, Both}
use Rattle.isis_routes.specs.declared.level.Level.{Level}
use Rattle.isis_routes.specs.declared.level.Level.TheVariants.{One, Two}
use Rattle.isis_routes.proofs.EntryFacts.{unoffered}
use Rattle.isis_routes.proofs.LeadFacts.{AreAsGood, as_good, down_leads, one_leads, two_leads}

-- Decisions

free_is_small : (at : ℕ) → AreSmall (record { at = at; asks = 0 } ∷ [])
free_is_small at a k l = grind (arith, common_steps, the_one)

-- what one offer asks doesn't tell where it leads
free_is_good : (at asks : ℕ) → AreAsGood (record { at = at; asks = 0 } ∷ []) (record { at = at; asks = asks } ∷ [])
free_is_good at asks =
    let sum : asks ≡ 0 + asks = omega arith in
    record { alike = record { more = asks; dearer = inl (ap (λ (k : ℕ). record { at = at; asks = k } ∷ []) sum) }; small = λ _. free_is_small at }

-- offers that are as good as all of them lead a router that makes none
abbrev LeadsElsewhere : ℕ → List Offer → (List Offer → Type 0) → Type 0
LeadsElsewhere u offers lead = (Any (λ (o : Offer). o.at ≡ u) offers → ⊥) → (given : List Offer) → AreAsGood given offers → lead given

decided : (u : ℕ) (offers : List Offer) (entry : Entry → Type 0) (lead : List Offer → Type 0) (decision : Decision) → LeadsElsewhere u offers lead →
    IsDecisionAmong offers decision → DecidesRoute u entry lead decision
decided u offers entry lead Nothing law is = absurd is
decided u offers entry lead (NothingBut one two) law is = absurd is
decided u offers entry lead (OneOffer at) law (asks, is) = λ other.
    subst (λ (l : List Offer). LeadsElsewhere u l lead) is law
    (λ makes. other (sym (any_in_one (λ (o : Offer). o.at ≡ u) (record { at = at; asks = asks }) makes)))
    (record { at = at; asks = 0 } ∷ []) (free_is_good at asks)
decided u offers entry lead (TwoOffers one two) law is = λ first second.
    subst (λ (l : List Offer). LeadsElsewhere u l lead) is law
    (λ makes. ⊎_elim (λ here. first (sym here)) (λ there. second (sym there)) (any_in_two (λ (o : Offer). o.at ≡ u) one two makes))
    (one ∷ two ∷ []) (as_good refl)
decided u offers entry lead Unknown law is = tt

-- a decision by offers, one of which is made at each home of the level
decided_by : (domain : IsisDomain) (level : Level) (u : ℕ) (p : Block) (none : Type 0) (homes : List ℕ) (offers : List Offer) (decision : Decision) →
    AreRoutersAt domain.net p homes → RunsLevel domain.net level u → IsDecisionBy domain.net level homes offers decision →
    ((Connected domain.net u p → ⊥) → (given : List Offer) → AreAsGood given offers → LeadIn (in_level domain level u) p none given) →
    DecidesAt (given_by_isis domain) (zone_number level) u p decision
decided_by domain level u p none homes offers decision are runs (left_open is) law =
    subst (DecidesAt (given_by_isis domain) (zone_number level) u p) (sym is) tt
decided_by domain level u p none homes offers decision are runs (made_at_homes at_home is) law =
    decided u offers (IsisEntry domain.net u p)
    (LeadToBest (level_reach domain.walks u (zone_number level)) (zone_number level) (length domain.net) (IsIsisRoute domain u p)) decision
    (λ none_made given good.
    let lead = law (λ connected. none_made ((All-contains (MakesOne domain.net level offers) homes u at_home ((are u).1 connected)).made runs)) given good in
    record {
      range = lead.range;
      leads = λ target best. lead.route (Some (Towards target)) best;
      through = λ hops best. lead.route (Some (Through hops)) best;
    }) is

-- level 1 offers decide at routers of level 1
one_decides : (domain : IsisDomain) (u : ℕ) (d : Destination) (decision : Decision) → IsKnown domain → HasAnnouncements domain.net d →
    u < length domain.net → RunsLevelOne domain.net u → IsDecisionBy domain.net One d.one.homes.items d.one.offers.items decision →
    DecidesAt (given_by_isis domain) 0 u d.one.dest decision
one_decides domain u d decision known has within runs by =
    decided_by domain One u d.one.dest (HasLevelOneRoute domain.net d.one.dest u → ⊥) d.one.homes.items d.one.offers.items decision has.one.homes runs by
    (λ away given good. one_leads domain u d given known has within away runs good)

-- what is announced into level 2 decides at routers of level 2 that have no level 1 route
pub two_decides : (domain : IsisDomain) (u : ℕ) (d : Destination) (decision : Decision) → IsKnown domain → HasAnnouncements domain.net d →
    u < length domain.net → RunsLevelTwo domain.net u →
    ((Connected domain.net u d.one.dest → ⊥) → HasLevelOneRoute domain.net d.one.dest u → ⊥) →
    IsDecisionBy domain.net Two d.one.homes.items d.two.items decision → DecidesAt (given_by_isis domain) 1 u d.one.dest decision
two_decides domain u d decision known has within runs no_one by =
    decided_by domain Two u d.one.dest (HasLevelTwoRoute domain.net d.one.dest u → ⊥) d.one.homes.items d.two.items decision has.one.homes runs by
    (λ away given good. two_leads domain u d given known has within away (no_one away) runs good)

-- a destination's decision decides the routes of the routers of the lane
pub lane_decides : (domain : IsisDomain) (lane : LevelLane) (u : ℕ) (d : Destination) (decision : Decision) → IsKnown domain → HasAnnouncements domain.net d →
    u < length domain.net → IsInLane domain.net lane u → IsDecisionOf domain.net lane d decision →
    DecidesAt (given_by_isis domain) (first_zone (lane_number lane)) u d.one.dest decision
lane_decides domain OneAlone u d decision known has within lane (of_one by) = one_decides domain u d decision known has within lane.0 by
lane_decides domain OneAlone u d decision known has within lane (of_down empty by) =
    decided_by domain One u d.one.dest (HasDownRoute domain.net d.one.dest u → ⊥) d.one.homes.items d.down.items decision has.one.homes lane.0 by
    (λ away given good. down_leads domain u d given known has within away (unoffered domain.net d.one.dest u d.one.offers.items has.one.offers empty)
    (λ route. lane.1 route.costs.runs) lane.0 good)
lane_decides domain TwoAlone u d decision known has within lane by =
    two_decides domain u d decision known has within lane.0 (λ _ route. lane.1 route.costs.runs) by
lane_decides domain Both u d decision known has within lane by = one_decides domain u d decision known has within lane.0 by

-- Decisions in the making

-- one or two offers, read by their places
pub only_one : (offers : List Offer) (d : Offer) → 1 ≤ length offers → length offers < 2 → offers ≡ get_or offers 0 d ∷ []
only_one offers d some few = sym (take_all 1 offers (omega (arith, few))) ∙ take_more offers 0 d (omega (arith, some))

pub only_two : (offers : List Offer) (d : Offer) → 2 ≤ length offers → length offers < 3 → offers ≡ get_or offers 0 d ∷ get_or offers 1 d ∷ []
only_two offers d some few = grind (arith, common_steps, take_all, take_more)
