-- The entries of a router, by its routes.
use Rattle.std.proofs.lemmas.Grind.{common_steps}
use Rattle.std.proofs.Common.{◌≡◌, ℕ, inl, List, length, arith}
use Rattle.walk_core.specs.Offers.{BestHop}
use Rattle.walk_core.specs.declared.offers.Offer.{Offer}
use Rattle.route_tables.proofs.BestRoutes.{hops_same}
use Rattle.net_addr.specs.Addresses.{Block, default_prefix}
use Rattle.net_model.specs.Network.{Network, Connected, Adjacent}
use Rattle.net_model.specs.declared.zone.Zone.TheVariants.{One as ZoneOne, Two as ZoneTwo}
use Rattle.route_core.specs.declared.entry.Entry.{Entry}
use Rattle.route_core.specs.declared.entry.Entry.TheVariants.{Via}
use Rattle.igp_theory.specs.Ospf.{OfOthers}
use Rattle.igp_theory.specs.Isis.{RunsLevelOne, OffersLevelOne, LevelOneCost, LevelOneHop, HasLevelOneRoute, RunsLevelTwo}
use Rattle.igp_theory.specs.Isis.{LevelTwoAnnouncement}
use Rattle.igp_theory.specs.Isis.{LevelTwoCost, LevelTwoHop, HasLevelTwoRoute, DownAnnouncement, DownHop, HasDownRoute, OffersDefault, DefaultHop}
use Rattle.igp_theory.specs.Isis.{IsisEntry, level_one, level_two, down, default_route}
use Rattle.isis_routes.specs.steps.Candidates.{IsIsisCandidate}
use Rattle.isis_routes.specs.steps.Offered.{HoldsOffers}
use Rattle.isis_routes.specs.steps.Routing.{IsRouteToBest}

-- a connected prefix has no entry
pub connected_has_none : (net : Network) (u : ℕ) (p : Block) → Connected net u p → (e : Entry) → IsisEntry net u p e → ⊥
connected_has_none net u p is e it_5 = grind (arith, common_steps)

-- routes to the best of what the routers of a level offer make entries

pub entry_by_one : (net : Network) (u : ℕ) (p : Block) (hops : List ℕ) → (Connected net u p → ⊥) → RunsLevelOne net u →
    IsRouteToBest (Adjacent net ZoneOne) (OffersLevelOne net p) u hops → IsisEntry net u p (Via hops)
entry_by_one net u p hops away runs route =
    level_one away (record { cost = route.is.cost; costs = record { runs = runs; best = route.is.best } })
    (hops_same (BestHop (Adjacent net ZoneOne) (OffersLevelOne net p) u) (LevelOneHop net p u) hops
    (λ h. (λ hop. record { runs = runs; best = hop }, λ hop. hop.best)) route.hops_are)

pub entry_by_two : (net : Network) (u : ℕ) (p : Block) (hops : List ℕ) → (Connected net u p → ⊥) → (HasLevelOneRoute net p u → ⊥) →
    RunsLevelTwo net u → IsRouteToBest (Adjacent net ZoneTwo) (OfOthers (LevelTwoAnnouncement net p) u) u hops → IsisEntry net u p (Via hops)
entry_by_two net u p hops away no_one runs route =
    level_two away no_one (record { cost = route.is.cost; costs = record { runs = runs; best = route.is.best } })
    (hops_same (BestHop (Adjacent net ZoneTwo) (OfOthers (LevelTwoAnnouncement net p) u) u) (LevelTwoHop net p u) hops
    (λ h. (λ hop. record { runs = runs; best = hop }, λ hop. hop.best)) route.hops_are)

pub entry_by_down : (net : Network) (u : ℕ) (p : Block) (hops : List ℕ) → (Connected net u p → ⊥) → (HasLevelOneRoute net p u → ⊥) →
    (HasLevelTwoRoute net p u → ⊥) → RunsLevelOne net u → IsRouteToBest (Adjacent net ZoneOne) (OfOthers (DownAnnouncement net p) u) u hops →
    IsisEntry net u p (Via hops)
entry_by_down net u p hops away no_one no_two runs route =
    down away no_one no_two (record { cost = route.is.cost; costs = record { runs = runs; best = route.is.best } })
    (hops_same (BestHop (Adjacent net ZoneOne) (OfOthers (DownAnnouncement net p) u) u) (DownHop net p u) hops
    (λ h. (λ hop. record { runs = runs; best = hop }, λ hop. hop.best)) route.hops_are)

pub entry_by_default : (net : Network) (u : ℕ) (p : Block) (hops : List ℕ) → (Connected net u p → ⊥) → (HasLevelOneRoute net p u → ⊥) →
    (HasLevelTwoRoute net p u → ⊥) → (HasDownRoute net p u → ⊥) → p ≡ default_prefix → RunsLevelOne net u →
    (RunsLevelTwo net u → ⊥) → IsRouteToBest (Adjacent net ZoneOne) (OffersDefault net) u hops → IsisEntry net u p (Via hops)
entry_by_default net u p hops away no_one no_two no_down all runs alone route =
    default_route away no_one no_two no_down all route.is.cost (record { runs = runs; alone = alone; best = route.is.best })
    (hops_same (BestHop (Adjacent net ZoneOne) (OffersDefault net) u) (DefaultHop net u) hops
    (λ h. (λ hop. record { runs = runs; alone = alone; best = hop }, λ hop. hop.best)) route.hops_are)

-- what level 1 offers nothing of has no level 1 route
pub unoffered : (net : Network) (p : Block) (u : ℕ) (offers : List Offer) → HoldsOffers (OffersLevelOne net p) offers → length offers ≡ 0 →
    HasLevelOneRoute net p u → ⊥
unoffered net p u offers are none route =
    let listed = (are route.costs.best.at route.costs.best.attained.asks).1 route.costs.best.attained.offered in omega (arith, listed.among.1, none)

-- Every prefix with an entry is a candidate

one_is_candidate : (net : Network) (p : Block) (u cost : ℕ) → LevelOneCost net p u cost → IsIsisCandidate net p
one_is_candidate net p u cost costs = grind (arith, common_steps)

announced_is_candidate : (net : Network) (p : Block) (b cost : ℕ) → LevelTwoAnnouncement net p b cost → IsIsisCandidate net p
announced_is_candidate net p b cost it_4 = grind (arith, common_steps, one_is_candidate)

two_is_candidate : (net : Network) (p : Block) (u cost : ℕ) → LevelTwoCost net p u cost → IsIsisCandidate net p
two_is_candidate net p u cost costs = grind (arith, common_steps, announced_is_candidate)

pub entry_is_candidate : (net : Network) (u : ℕ) (p : Block) (e : Entry) → IsisEntry net u p e → IsIsisCandidate net p
entry_is_candidate net u p e (level_one _ is _) = one_is_candidate net p u is.cost is.costs
entry_is_candidate net u p e (level_two _ _ is _) = two_is_candidate net p u is.cost is.costs
entry_is_candidate net u p e (down _ _ _ is _) =
    two_is_candidate net p is.costs.best.at is.costs.best.attained.asks is.costs.best.attained.offered.offered.costs
entry_is_candidate net u p e (default_route _ _ _ _ all _ _ _) = inl all
