-- What decides for the routers that reach none of the offers of level 1.
use Rattle.std.proofs.lemmas.Grind.{common_steps}
use Rattle.std.proofs.Common.{◌≡◌, ℕ, ◌<◌, List, length, None, Some, refl, sym, ap, subst, arith}
use Rattle.std.proofs.lemmas.List.Elements.{Contains-push_cases}
use Rattle.std.proofs.lemmas.Option.{none-some}
use Rattle.net_addr.specs.Addresses.{default_prefix}
use Rattle.net_model.specs.Network.{Connected}
use Rattle.walk_core.specs.Reach.{Reach, distance_of}
use Rattle.walk_core.specs.BestOffers.{NoneTotals, total_towards}
use Rattle.walk_core.specs.declared.offers.Offer.{Offer}
use Rattle.route_core.specs.declared.entry.Entry.{Entry}
use Rattle.igp_theory.specs.Isis.{HasLevelOneRoute, IsisEntry, RunsLevelOne}
use Rattle.route_tables.specs.Lanes.{DecidesAt, MissesOffers}
use Rattle.route_tables.specs.declared.lane.Behind.{Behind}
use Rattle.route_tables.specs.declared.lane.Decision.{Decision}
use Rattle.route_tables.specs.declared.lane.Decision.TheVariants.{Unknown}
use Rattle.route_tables.proofs.ListFacts.{the_one}
use Rattle.isis_routes.specs.steps.Destinations.{HasAnnouncements}
use Rattle.isis_routes.specs.steps.Domain.{IsisDomain, IsKnown}
use Rattle.isis_routes.specs.steps.Lanes.{IsBehindIn, IsDecisionAmong, IsFirstOf, IsInLane, IsOfIsisLane, IsSecondIn, made_at_homes, left_open}
use Rattle.isis_routes.specs.steps.Lanes.{behind_both, behind_one, by_first, first_zone, lane_number, left_unknown, no_first, not_known, nothing_left}
use Rattle.isis_routes.specs.steps.LevelReach.{level_reach}
use Rattle.isis_routes.specs.steps.Routes.{given_by_isis}
use Rattle.isis_routes.specs.declared.destinations.Destination.{Destination}
use Rattle.isis_routes.specs.declared.lanes.LevelLane.{LevelLane}
use Rattle.isis_routes.specs.declared.lanes.LevelLane.TheVariants.{OneAlone, TwoAlone, Both}
use Rattle.isis_routes.proofs.EntryFacts.{unoffered}
use Rattle.isis_routes.proofs.LaneFacts.{two_decides}
use Rattle.isis_routes.proofs.LeadFacts.{as_good, one_leads}

-- an offer at a vertex that isn't reached costs nothing in all
none_costs : (reach : Reach) (o x : Offer) (cost : ℕ) → distance_of reach o.at ≡ None → x ≡ o → total_towards reach x ≡ Some cost → ⊥
none_costs reach o x cost far same total = grind (arith, common_steps, none-some)

-- where the offers that a decision names are missed, none of them is reached
missed_none : (reach : Reach) (u : ℕ) (offers : List Offer) (decision : Decision) → IsDecisionAmong offers decision → MissesOffers reach u decision →
    NoneTotals reach offers
missed_none reach u offers decision is missed = grind (arith, common_steps, Contains-push_cases, none_costs, the_one)

-- a router that misses the first offers has no level 1 route
no_level_one : (domain : IsisDomain) (u : ℕ) (d : Destination) (first : Decision) → IsKnown domain → HasAnnouncements domain.net d →
    u < length domain.net → RunsLevelOne domain.net u → IsFirstOf domain.net d first → MissesOffers (level_reach domain.walks u 0) u first →
    (Connected domain.net u d.one.dest → ⊥) → HasLevelOneRoute domain.net d.one.dest u → ⊥
no_level_one domain u d first known has within runs (no_first is empty) missed away =
    unoffered domain.net d.one.dest u d.one.offers.items has.one.offers empty
no_level_one domain u d first known has within runs (by_first (left_open is)) missed away =
    absurd (subst (MissesOffers (level_reach domain.walks u 0) u) is missed)
no_level_one domain u d first known has within runs (by_first (made_at_homes at_home among)) missed away =
    (one_leads domain u d d.one.offers.items known has within away runs (as_good refl)).route None
    (missed_none (level_reach domain.walks u 0) u d.one.offers.items first among missed)

-- a router that runs level 1 alone and has no level 1 route has no entry where nothing is leaked, but for all addresses
no_entry : (domain : IsisDomain) (u : ℕ) (d : Destination) → HasAnnouncements domain.net d → IsInLane domain.net OneAlone u → length d.down.items ≡ 0 →
    (d.one.dest ≡ default_prefix → ⊥) → ((Connected domain.net u d.one.dest → ⊥) → HasLevelOneRoute domain.net d.one.dest u → ⊥) →
    (e : Entry) → IsisEntry domain.net u d.one.dest e → ⊥
no_entry domain u d has lane empty some none e it_9 = grind (arith, common_steps)

-- what decides behind what level 1 offers decides the routes of the routers that miss it
pub behind_decides : (domain : IsisDomain) (own : LevelLane) (lane zone u : ℕ) (d : Destination) (behind : Behind) → IsKnown domain →
    HasAnnouncements domain.net d → lane_number own ≡ lane → IsOfIsisLane domain.net lane u → IsBehindIn domain.net own zone d behind →
    MissesOffers (level_reach domain.walks u (first_zone lane)) u behind.first → DecidesAt (given_by_isis domain) zone u d.one.dest behind.second
behind_decides domain own lane zone u d behind known has numbered of is missed = go own numbered is.second
  where
    left : behind.second ≡ Unknown → DecidesAt (given_by_isis domain) zone u d.one.dest behind.second
    left same = subst (DecidesAt (given_by_isis domain) zone u d.one.dest) (sym same) tt

    -- without a level 1 route, where it is looked for there first
    none : RunsLevelOne domain.net u → first_zone lane ≡ 0 → (Connected domain.net u d.one.dest → ⊥) → HasLevelOneRoute domain.net d.one.dest u → ⊥
    none runs first = no_level_one domain u d behind.first known has of.below runs is.first
        (subst (λ (z : ℕ). MissesOffers (level_reach domain.walks u z) u behind.first) first missed)

    go : (l : LevelLane) → lane_number l ≡ lane → IsSecondIn domain.net l zone d behind.second →
        DecidesAt (given_by_isis domain) zone u d.one.dest behind.second
    go OneAlone same (behind_one _ (nothing_left nothing empty some)) =
        let inside = of.of_lane OneAlone same in
        subst (DecidesAt (given_by_isis domain) zone u d.one.dest) (sym nothing)
        (no_entry domain u d has inside empty some (none inside.0 (sym (ap first_zone same))))
    go Both same (behind_both _ two by) =
        let inside = of.of_lane Both same in
        subst (λ (z : ℕ). DecidesAt (given_by_isis domain) z u d.one.dest behind.second) (sym two)
        (two_decides domain u d behind.second known has of.below inside.1 (none inside.0 (sym (ap first_zone same))) by)
    go l same (behind_one _ (left_unknown unknown)) = left unknown
    go l same (not_known unknown) = left unknown
    go TwoAlone same (behind_one wrong _) = absurd (let no : TwoAlone ≡ OneAlone = wrong in cc)
    go TwoAlone same (behind_both wrong _ _) = absurd (let no : TwoAlone ≡ Both = wrong in cc)
    go OneAlone same (behind_both wrong _ _) = absurd (let no : OneAlone ≡ Both = wrong in cc)
    go Both same (behind_one wrong _) = absurd (let no : Both ≡ OneAlone = wrong in cc)
