-- No sum of a distance and of what an offer asks is too large.
use Rattle.std.proofs.Common.{◌≡◌, ℕ, ◌+◌, ◌*◌, ◌^◌, ◌<◌, ◌≤◌, List, length, sym, subst, arith}
use Rattle.net_addr.specs.Addresses.{Block}
use Rattle.net_model.proofs.NetworkFacts.{HasConfiguration-within, UpInterface-keeps}
use Rattle.net_model.specs.Configuration.{IsInterface}
use Rattle.net_model.specs.Network.{Network, Adjacent}
use Rattle.net_model.specs.Refusals.{IsNetwork}
use Rattle.net_model.specs.declared.zone.Zone.{Zone}
use Rattle.net_model.specs.declared.zone.Zone.TheVariants.{One as ZoneOne, Two as ZoneTwo}
use Rattle.walk_core.specs.Offers.{Offers, BestCost}
use Rattle.walk_core.specs.Reach.{Reach}
use Rattle.walk_core.specs.declared.offers.Offer.{Offer}
use Rattle.igp_theory.specs.Isis.{OffersLevelOne, LevelOneCost, OffersLevelTwo, LevelTwoAnnouncement, own, of_level_one, LevelTwoCost, DownAnnouncement}
use Rattle.igp_theory.specs.Isis.{OffersDefault}
use Rattle.igp_theory.specs.Ospf.{OfOthers}
use Rattle.zone_graph.specs.Walks.{AreZoneWalks}
use Rattle.isis_routes.proofs.LevelRoutes.{reach_of}
use Rattle.isis_routes.specs.steps.Offered.{AreSmall, HoldsOffers}
use Rattle.isis_routes.specs.steps.Routing.{AreLevelWalks}
use Rattle.isis_routes.specs.declared.level_walks.LevelWalks.{LevelWalks}

-- a list of offers that aren't large isn't
small_by : (offer : Offers) (offers given : List Offer) → HoldsOffers offer offers → given ≡ offers → ((at asks : ℕ) → offer at asks → asks < 2 ^ 42)
    → AreSmall given
small_by offer offers given are same small = subst AreSmall (sym same) (λ at asks l. small at asks ((are at asks).0 l))

-- a metric is below 2^24
one_is_small : (net : Network) (p : Block) (w cost : ℕ) → IsNetwork net → OffersLevelOne net p w cost → cost < 2 ^ 24
one_is_small net p w cost network offers =
    let keeps : IsInterface offers.interface = UpInterface-keeps net w offers.interface network offers.up in
    let most : offers.interface.metric1 ≤ 16777214 = keeps.metric1.1 in
    let is : offers.interface.metric1 ≡ cost = offers.costs in
    omega arith

two_is_small : (net : Network) (p : Block) (w cost : ℕ) → IsNetwork net → OffersLevelTwo net p w cost → cost < 2 ^ 24
two_is_small net p w cost network offers =
    let keeps : IsInterface offers.interface = UpInterface-keeps net w offers.interface network offers.up in
    let most : offers.interface.metric2 ≤ 16777214 = keeps.metric2.1 in
    let is : offers.interface.metric2 ≡ cost = offers.costs in
    omega arith

-- a best cost is at most 200 arcs more than its offer asks
best_is_small : (net : Network) (zone : Zone) (walks : List Reach) (u cost most : ℕ) (offer : Offers) → AreZoneWalks net zone walks → u < length net →
    ((at asks : ℕ) → offer at asks → asks < most) → BestCost (Adjacent net zone) offer u cost → cost < 200 * 2 ^ 32 + most
best_is_small net zone walks u cost most offer are within small best =
    let known = reach_of net zone walks u are within in
    let attained = best.attained in
    let near : attained.walk < 200 * 2 ^ 32 =
    known.near best.at attained.walk ((known.least.distances best.at attained.walk).1 attained.reached) in
    let asked : attained.asks < most = small best.at attained.asks attained.offered in
    let sum : attained.walk + attained.asks ≡ cost = attained.costs in
    omega arith

-- a level 1 cost is at most 200 arcs and a metric
one_cost_is_small : (net : Network) (p : Block) (u cost : ℕ) (walks : List Reach) → IsNetwork net → AreZoneWalks net ZoneOne walks →
    LevelOneCost net p u cost → cost < 2 ^ 41
one_cost_is_small net p u cost walks network are costs =
    let within : u < length net = HasConfiguration-within net u costs.runs.config costs.runs.router in
    let small : cost < 200 * 2 ^ 32 + 2 ^ 24 = best_is_small net ZoneOne walks u cost (2 ^ 24) (OffersLevelOne net p) are within
    (λ at asks is. one_is_small net p at asks network is) costs.best in
    omega arith

-- so is what is announced into level 2
announcement_is_small : (net : Network) (p : Block) (b cost : ℕ) (walks : List Reach) → IsNetwork net → AreZoneWalks net ZoneOne walks →
    LevelTwoAnnouncement net p b cost → cost < 2 ^ 41
announcement_is_small net p b cost walks network are (own runs offers) =
    let small : cost < 2 ^ 24 = two_is_small net p b cost network offers in omega arith
announcement_is_small net p b cost walks network are (of_level_one runs costs) =
    one_cost_is_small net p b cost walks network are costs

-- a level 2 cost is at most 200 arcs more than an announcement, and what is leaked is a level 2 cost
two_cost_is_small : (net : Network) (p : Block) (u cost : ℕ) (walks : LevelWalks) → IsNetwork net → AreLevelWalks net walks → LevelTwoCost net p u cost →
    cost < 2 ^ 42
two_cost_is_small net p u cost walks network are costs =
    let within : u < length net = HasConfiguration-within net u costs.runs.config costs.runs.router in
    let small : cost < 200 * 2 ^ 32 + 2 ^ 41 =
    best_is_small net ZoneTwo walks.two.value u cost (2 ^ 41) (OfOthers (LevelTwoAnnouncement net p) u) are.two within
    (λ at asks is. announcement_is_small net p at asks walks.one.value network are.one is.offered) costs.best in
    omega arith

-- What is listed of a prefix

pub level_one_small : (net : Network) (p : Block) (offers given : List Offer) → IsNetwork net → HoldsOffers (OffersLevelOne net p) offers → given ≡ offers →
    AreSmall given
level_one_small net p offers given network are same =
    small_by (OffersLevelOne net p) offers given are same
    (λ at asks is. let small : asks < 2 ^ 24 = one_is_small net p at asks network is in omega arith)

pub announced_small : (net : Network) (p : Block) (walks : List Reach) (offers given : List Offer) → IsNetwork net → AreZoneWalks net ZoneOne walks →
    HoldsOffers (LevelTwoAnnouncement net p) offers → given ≡ offers → AreSmall given
announced_small net p walks offers given network least are same =
    small_by (LevelTwoAnnouncement net p) offers given are same
    (λ at asks is. let small : asks < 2 ^ 41 = announcement_is_small net p at asks walks network least is in omega arith)

pub leaked_small : (net : Network) (p : Block) (walks : LevelWalks) (offers given : List Offer) → IsNetwork net → AreLevelWalks net walks →
    HoldsOffers (DownAnnouncement net p) offers → given ≡ offers → AreSmall given
leaked_small net p walks offers given network least are same =
    small_by (DownAnnouncement net p) offers given are same (λ at asks is. two_cost_is_small net p at asks walks network least is.costs)

pub default_small : (net : Network) (offers given : List Offer) → HoldsOffers (OffersDefault net) offers → given ≡ offers → AreSmall given
default_small net offers given are same = small_by (OffersDefault net) offers given are same (λ at asks is. omega (arith, is.costs))
