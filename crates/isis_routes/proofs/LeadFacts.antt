-- Lists of offers whose best is the route of the definitions.
use Rattle.std.proofs.Common.{arith}
use Rattle.std.proofs.lemmas.Grind.{common_steps}
use Rattle.std.proofs.Common.{◌≡◌, ℕ, ◌<◌, inl, List, length, Option, Some, None, MatchOption, Result, IfOk, refl, sym, subst}
use Rattle.std.proofs.lemmas.Result.{IfOk-weaker}
use Rattle.net_addr.specs.Addresses.{Block, default_prefix}
use Rattle.net_model.specs.Network.{Network, Connected, Adjacent}
use Rattle.walk_core.specs.Offers.{Offers}
use Rattle.walk_core.specs.BestOffers.{ListsOffer}
use Rattle.walk_core.specs.declared.offers.Offer.{Offer}
use Rattle.route_core.specs.declared.entry.Entry.TheVariants.{Via}
use Rattle.igp_theory.specs.Ospf.{OfOthers}
use Rattle.igp_theory.specs.Isis.{DownAnnouncement, HasDownRoute, HasLevelOneRoute, HasLevelTwoRoute, IsisEntry, LevelTwoAnnouncement, OffersDefault}
use Rattle.igp_theory.specs.Isis.{OffersLevelOne, RunsLevelOne, RunsLevelTwo}
use Rattle.route_tables.specs.AlikeOffers.{AreAlikeOffers}
use Rattle.route_tables.specs.Routings.{ForwardsBy, IsRouteFor}
use Rattle.route_tables.specs.declared.route.Route.{Route}
use Rattle.route_tables.proofs.AlikeRoutes.{AskAlike, alike_lists, alike_turned, dearer_by_nothing}
use Rattle.route_tables.proofs.BestRoutes.{route_by_hops}
use Rattle.isis_routes.specs.steps.Asked.{HasNoDownRoute, HasNoLevelRoute, IsAway, IsIsisQuestion}
use Rattle.isis_routes.specs.steps.Destinations.{HasAnnouncements}
use Rattle.isis_routes.specs.declared.asked.Asked.{Asked}
use Rattle.isis_routes.specs.steps.Domain.{IsisDomain, IsKnown}
use Rattle.isis_routes.specs.steps.LevelReach.{level_reach}
use Rattle.isis_routes.specs.steps.Levels.{zone_in}
use Rattle.isis_routes.specs.steps.Offered.{AreSmall, HoldsOffers}
use Rattle.isis_routes.specs.steps.Routes.{InLevel, IsBestIn, IsIsisRoute, LeadIn, in_level}
use Rattle.isis_routes.specs.steps.Routing.{HasBest, IsRouteToBest, NoDefaultRoute}
use Rattle.isis_routes.specs.declared.destinations.Destination.{Destination}
use Rattle.isis_routes.specs.declared.level.Level.{Level}
use Rattle.isis_routes.specs.declared.level.Level.TheVariants.{One, Two}
use Rattle.isis_routes.proofs.Announced.{announces_nothing, others_hold}
use Rattle.isis_routes.proofs.BestRoutes.{like_best, like_route}
use Rattle.isis_routes.proofs.CostBounds.{announced_small, default_small, leaked_small, level_one_small}
use Rattle.isis_routes.proofs.EntryFacts.{entry_by_default, entry_by_down, entry_by_one, entry_by_two}
use Rattle.isis_routes.proofs.LevelRoutes.{listed_route, small_in_range}

-- the offers given ask what all do, up to a constant, and aren't large where these aren't
pub record AreAsGood (given all : List Offer) : Type 0 where
  pub alike : AreAlikeOffers given all
  pub small : AreSmall all → AreSmall given

pub as_good : {given all : List Offer} → given ≡ all → AreAsGood given all
as_good {given} {all} same =
    subst (λ (l : List Offer). AreAsGood l all) (sym same) (record { alike = record { more = 0; dearer = inl (sym (dearer_by_nothing all)) }; small = λ s. s })

pub route_by : {E : Type 0} {at : InLevel} {p : Block} {none : Type 0} {offers : List Offer} (r : Result (Option Route) E) → LeadIn at p none offers →
    IfOk r (IsBestIn at offers) → IfOk r (λ found. MatchOption found none (IsIsisRoute at.domain at.router p))
route_by {E} {at} {p} {none} {offers} r lead best = grind (arith, common_steps, IfOk-weaker)

-- the offers are up to a constant those whose best makes the entry
leads : (domain : IsisDomain) (level : Level) (u : ℕ) (p : Block) (offer : Offers) (given all : List Offer) (none : Type 0) → IsKnown domain →
    u < length domain.net → HoldsOffers offer all → AreSmall all → AreAsGood given all →
    ((HasBest (Adjacent domain.net (zone_in level)) offer u → ⊥) → none) →
    ((hops : List ℕ) → IsRouteToBest (Adjacent domain.net (zone_in level)) offer u hops → IsisEntry domain.net u p (Via hops)) →
    LeadIn (in_level domain level u) p none given
leads domain level u p offer given all none known within are small good without by = record {
  range = small_in_range domain.net level domain.walks u given known.walks within (good.small small);
  route = λ found best. go found (listed_route domain level u given known.walks within found best);
}
  where
    alike : AskAlike (ListsOffer given) offer
    alike = alike_lists (ListsOffer given) offer given all (λ at asks. (λ l. l, λ l. l)) are good.alike

    go : (found : Option Route) → MatchOption found (HasBest (Adjacent domain.net (zone_in level)) (ListsOffer given) u → ⊥)
        (IsRouteFor (level_reach domain.walks u) 2 (length domain.net)
        (ForwardsBy (IsRouteToBest (Adjacent domain.net (zone_in level)) (ListsOffer given) u))) → MatchOption found none (IsIsisRoute domain u p)
    go None wrong = without (λ has. wrong (like_best (Adjacent domain.net (zone_in level)) offer (ListsOffer given) u (alike_turned alike) has))
    go (Some route) is =
        route_by_hops (level_reach domain.walks u) 2 (length domain.net) (IsRouteToBest (Adjacent domain.net (zone_in level)) (ListsOffer given) u)
        (IsisEntry domain.net u p) route
        (λ hops to. by hops (like_route (Adjacent domain.net (zone_in level)) (ListsOffer given) offer u hops alike to)) is

-- The offers of a destination

pub one_leads : (domain : IsisDomain) (u : ℕ) (d : Destination) (given : List Offer) → IsKnown domain → HasAnnouncements domain.net d →
    u < length domain.net → (Connected domain.net u d.one.dest → ⊥) → RunsLevelOne domain.net u → AreAsGood given d.one.offers.items →
    LeadIn (in_level domain One u) d.one.dest (HasLevelOneRoute domain.net d.one.dest u → ⊥) given
one_leads domain u d given known has within away runs good =
    let net : Network = domain.net in
    let p : Block = d.one.dest in
    leads domain One u p (OffersLevelOne net p) given d.one.offers.items (HasLevelOneRoute net p u → ⊥) known within has.one.offers
    (level_one_small net p d.one.offers.items d.one.offers.items known.network has.one.offers refl) good
    (λ none route. none (record { cost = route.cost; best = route.costs.best })) (λ hops. entry_by_one net u p hops away runs)

pub two_leads : (domain : IsisDomain) (u : ℕ) (d : Destination) (given : List Offer) → IsKnown domain → HasAnnouncements domain.net d →
    u < length domain.net → (Connected domain.net u d.one.dest → ⊥) → (HasLevelOneRoute domain.net d.one.dest u → ⊥) → RunsLevelTwo domain.net u →
    AreAsGood given d.two.items → LeadIn (in_level domain Two u) d.one.dest (HasLevelTwoRoute domain.net d.one.dest u → ⊥) given
two_leads domain u d given known has within away no_one runs good =
    let net : Network = domain.net in
    let p : Block = d.one.dest in
    leads domain Two u p (OfOthers (LevelTwoAnnouncement net p) u) given d.two.items (HasLevelTwoRoute net p u → ⊥) known within
    (others_hold (LevelTwoAnnouncement net p) d.two.items u has.two (λ k announces. announces_nothing net p u k away no_one announces))
    (announced_small net p domain.walks.one.value d.two.items d.two.items known.network known.walks.one has.two refl) good
    (λ none route. none (record { cost = route.cost; best = route.costs.best })) (λ hops. entry_by_two net u p hops away no_one runs)

pub down_leads : (domain : IsisDomain) (u : ℕ) (d : Destination) (given : List Offer) → IsKnown domain → HasAnnouncements domain.net d →
    u < length domain.net → (Connected domain.net u d.one.dest → ⊥) → (HasLevelOneRoute domain.net d.one.dest u → ⊥) →
    (HasLevelTwoRoute domain.net d.one.dest u → ⊥) → RunsLevelOne domain.net u → AreAsGood given d.down.items →
    LeadIn (in_level domain One u) d.one.dest (HasDownRoute domain.net d.one.dest u → ⊥) given
down_leads domain u d given known has within away no_one no_two runs good =
    let net : Network = domain.net in
    let p : Block = d.one.dest in
    leads domain One u p (OfOthers (DownAnnouncement net p) u) given d.down.items (HasDownRoute net p u → ⊥) known within
    (others_hold (DownAnnouncement net p) d.down.items u has.down (λ k down. no_two (record { cost = k; costs = down.costs })))
    (leaked_small net p domain.walks d.down.items d.down.items known.network known.walks has.down refl) good
    (λ none route. none (record { cost = route.cost; best = route.costs.best })) (λ hops. entry_by_down net u p hops away no_one no_two runs)

pub asked_down : (asked : Asked) (given : List Offer) → IsKnown asked.domain.now → IsIsisQuestion asked → IsAway asked → HasNoLevelRoute asked →
    RunsLevelOne asked.domain.now.net asked.router → given ≡ asked.destination.now.down.items →
    LeadIn (in_level asked.domain.now One asked.router) asked.destination.now.one.dest (HasNoDownRoute asked) given
asked_down asked given known is away without runs same =
    down_leads asked.domain.now asked.router asked.destination.now given known is.announced is.router away without.one without.two runs (as_good same)

-- the attached routers
pub default_leads : (asked : Asked) (attached : List Offer) → IsKnown asked.domain.now → HoldsOffers (OffersDefault asked.domain.now.net) attached →
    IsIsisQuestion asked → IsAway asked → HasNoLevelRoute asked → HasNoDownRoute asked → asked.destination.now.one.dest ≡ default_prefix →
    RunsLevelOne asked.domain.now.net asked.router → (RunsLevelTwo asked.domain.now.net asked.router → ⊥) →
    LeadIn (in_level asked.domain.now One asked.router) asked.destination.now.one.dest
    (NoDefaultRoute asked.domain.now.net asked.destination.now.one.dest asked.router) attached
default_leads asked attached known are is away without no_down all runs alone =
    let net : Network = asked.domain.now.net in
    let u = asked.router in
    let p : Block = asked.destination.now.one.dest in
    leads asked.domain.now One u p (OffersDefault net) attached attached (NoDefaultRoute net p u) known is.router are
    (default_small net attached attached are refl) (as_good refl) (λ none k is costs. none (record { cost = k; best = costs.best }))
    (λ hops. entry_by_default net u p hops away without.one without.two no_down all runs alone)
