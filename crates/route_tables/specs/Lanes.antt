-- What decides the routes of all routers that know the same offers.
use Rattle.std.specs.Prelude.{◌≡◌, ◌≢◌, ◌∷◌, ℕ, List, [], None}
use Rattle.net_addr.specs.Addresses.{Block}
use Rattle.walk_core.specs.Reach.{Reach, distance_of}
use Rattle.walk_core.specs.BestOffers.{AreInRange}
use Rattle.walk_core.specs.declared.offers.Offer.{Offer}
use Rattle.route_core.specs.declared.entry.Entry.{Entry}
use Rattle.route_tables.specs.BestRoutes.{AreBestHops, IsBestTarget}
use Rattle.route_tables.specs.Protocols.{IsRouteOf, ProtocolRoutes}
use Rattle.route_tables.specs.declared.lane.Behind.{Behind}
use Rattle.route_tables.specs.declared.lane.Decision.{Decision}
use Rattle.route_tables.specs.declared.lane.Decision.TheVariants.{Nothing, NothingBut, One, Two, Unknown}
use Rattle.route_tables.specs.declared.route.Route.{Route}
use Rattle.route_tables.specs.declared.route.Route.TheVariants.{Through, Towards}
use Rattle.route_tables.specs.declared.route.Target.{Target}

-- the offers fit, and a route of these has the hops towards the best ones: it leads to one router, where all best ones have the
-- first hops towards that
pub record LeadToBest (reach : Reach) (zone n : ℕ) (routes : Route → Type 0) (offers : List Offer) : Type 0 where
  pub range : AreInRange reach offers
  pub leads : (target : Target) → IsBestTarget reach offers zone n target → routes (Towards target)
  pub through : (hops : List ℕ) → AreBestHops reach offers n hops → routes (Through hops)

-- what decides the route of router u, which has these entries, where offers of which this holds decide it: it isn't said of
-- routers that make the offers or are excepted
abbrev pub DecidesRoute : ℕ → (Entry → Type 0) → (List Offer → Type 0) → Decision → Type 0
DecidesRoute u entry lead Nothing = (e : Entry) → entry e → ⊥
DecidesRoute u entry lead (NothingBut one other) = u ≢ one → u ≢ other → (e : Entry) → entry e → ⊥
DecidesRoute u entry lead (One at) = u ≢ at → lead (record { at = at; asks = 0 } ∷ [])
DecidesRoute u entry lead (Two one other) = u ≢ one.at → u ≢ other.at → lead (one ∷ other ∷ [])
DecidesRoute u entry lead Unknown = Unit {0}

-- what decides router u's route for p by offers that are reached over this zone
abbrev pub DecidesAt : ProtocolRoutes → ℕ → ℕ → Block → Decision → Type 0
DecidesAt routes zone u p = DecidesRoute u (routes.entry u p) (LeadToBest (routes.reach u zone) zone routes.routers (IsRouteOf routes u p))

-- what decides the routes of the routers of a lane for a prefix
abbrev pub DecidesFor : ProtocolRoutes → ℕ → Block → Decision → Type 0
DecidesFor routes lane p decision = (u : ℕ) → routes.in_lane lane u → DecidesAt routes (routes.lane_zone lane) u p decision

-- router u doesn't make an offer at the vertex, and doesn't reach it
pub record IsBeyond (reach : Reach) (u at : ℕ) : Type 0 where
  pub other : u ≢ at
  pub unreached : distance_of reach at ≡ None

-- router u makes and reaches none of the offers of the decision
abbrev pub MissesOffers : Reach → ℕ → Decision → Type 0
MissesOffers reach u Nothing = Unit {0}
MissesOffers reach u (NothingBut one other) = ⊥
MissesOffers reach u (One at) = IsBeyond reach u at
MissesOffers reach u (Two one other) = IsBeyond reach u one.at × IsBeyond reach u other.at
MissesOffers reach u Unknown = ⊥

-- what decides over a zone router u's route for p, where it makes and reaches none of the first offers
abbrev pub DecidesBeyond : ProtocolRoutes → Reach → ℕ → ℕ → Block → Behind → Type 0
DecidesBeyond routes reach zone u p behind = MissesOffers reach u behind.first → DecidesAt routes zone u p behind.second

-- what decides so the routes of the routers of a lane for a prefix, whose first offers are reached over the lane's zone
abbrev pub DecidesBehind : ProtocolRoutes → ℕ → ℕ → Block → Behind → Type 0
DecidesBehind routes lane zone p behind =
    (u : ℕ) → routes.in_lane lane u → DecidesBeyond routes (routes.reach u (routes.lane_zone lane)) zone u p behind
