-- What decides the routes of all routers that run the same levels.
use Rattle.std.specs.Prelude.{◌≡◌, ◌<◌, ◌∷◌, ℕ, List, [], Any, All, length}
use Rattle.std.proofs.Common.{zero, suc}
use Rattle.net_addr.specs.Addresses.{default_prefix}
use Rattle.net_model.specs.Network.{Network}
use Rattle.walk_core.specs.declared.offers.Offer.{Offer}
use Rattle.igp_theory.specs.Isis.{RunsLevelOne, RunsLevelTwo}
use Rattle.route_tables.specs.declared.lane.Behind.{Behind as BehindValue}
use Rattle.route_tables.specs.declared.lane.Decision.{Decision}
use Rattle.route_tables.specs.declared.lane.Decision.TheVariants.{Nothing, NothingBut, One as OneOffer, Two as TwoOffers, Unknown}
use Rattle.isis_routes.specs.steps.Levels.{RunsLevel}
use Rattle.isis_routes.specs.declared.destinations.Destination.{Destination}
use Rattle.isis_routes.specs.declared.lanes.LevelLane.{LevelLane}
use Rattle.isis_routes.specs.declared.lanes.LevelLane.TheVariants.{OneAlone, TwoAlone, Both}
use Rattle.isis_routes.specs.declared.level.Level.{Level}
use Rattle.isis_routes.specs.declared.level.Level.TheVariants.{One, Two}

-- router u runs the levels of the lane and no other
abbrev pub IsInLane : Network → LevelLane → ℕ → Type 0
IsInLane net OneAlone u = RunsLevelOne net u × (RunsLevelTwo net u → ⊥)
IsInLane net TwoAlone u = RunsLevelTwo net u × (RunsLevelOne net u → ⊥)
IsInLane net Both u = RunsLevelOne net u × RunsLevelTwo net u

-- the level in which its routers look first
abbrev pub first_level : LevelLane → Level
first_level OneAlone = One
first_level TwoAlone = Two
first_level Both = One

-- the number of a lane
abbrev pub lane_number : LevelLane → ℕ
lane_number OneAlone = 0
lane_number TwoAlone = 1
lane_number Both = 2

-- the number of the zone in which the routers of the lane of this number look first
abbrev pub first_zone : ℕ → ℕ
first_zone zero = 0
first_zone (suc zero) = 1
first_zone (suc (suc lane)) = 0

-- the lane of this number has router u
pub record IsOfIsisLane (net : Network) (lane u : ℕ) : Type 0 where
  pub below : u < length net
  pub of_lane : (own : LevelLane) → lane_number own ≡ lane → IsInLane net own u

-- the decision names all of the offers
abbrev pub IsDecisionAmong : List Offer → Decision → Type 0
IsDecisionAmong offers Nothing = ⊥
IsDecisionAmong offers (NothingBut one other) = ⊥
IsDecisionAmong offers (OneOffer at) = (asks : ℕ) × (offers ≡ record { at = at; asks = asks } ∷ [])
IsDecisionAmong offers (TwoOffers one other) = offers ≡ one ∷ other ∷ []
IsDecisionAmong offers Unknown = ⊥

-- router u makes one of the offers, if it runs the level
pub record MakesOne (net : Network) (level : Level) (offers : List Offer) (u : ℕ) : Type 0 where
  pub made : RunsLevel net level u → Any (λ (o : Offer). o.at ≡ u) offers

-- it does, and each home that runs the level makes one of them; else it isn't known
pub data IsDecisionBy (net : Network) (level : Level) (homes : List ℕ) (offers : List Offer) (decision : Decision) : Type 0 where
  made_at_homes : All (MakesOne net level offers) homes → IsDecisionAmong offers decision → IsDecisionBy net level homes offers decision
  left_open : decision ≡ Unknown → IsDecisionBy net level homes offers decision

-- what decides for a destination at routers of level 1 alone: what level 1 offers, or where it offers nothing what is leaked
pub data IsDecisionIn (net : Network) (d : Destination) (decision : Decision) : Type 0 where
  of_one : IsDecisionBy net One d.one.homes.items d.one.offers.items decision → IsDecisionIn net d decision
  of_down : length d.one.offers.items ≡ 0 → IsDecisionBy net One d.one.homes.items d.down.items decision → IsDecisionIn net d decision

-- what decides for it in each lane: at routers of level 2 alone what is announced there
abbrev pub IsDecisionOf : Network → LevelLane → Destination → Decision → Type 0
IsDecisionOf net OneAlone d decision = IsDecisionIn net d decision
IsDecisionOf net TwoAlone d decision = IsDecisionBy net Two d.one.homes.items d.two.items decision
IsDecisionOf net Both d decision = IsDecisionBy net One d.one.homes.items d.one.offers.items decision

-- the first decision for a destination is by what level 1 offers, and that there is nothing where it offers nothing
pub data IsFirstOf (net : Network) (d : Destination) (first : Decision) : Type 0 where
  no_first : first ≡ Nothing → length d.one.offers.items ≡ 0 → IsFirstOf net d first
  by_first : IsDecisionBy net One d.one.homes.items d.one.offers.items first → IsFirstOf net d first

-- without a level 1 route there is nothing, where nothing is leaked and the prefix isn't that of all addresses
pub data IsSecondOf (d : Destination) (second : Decision) : Type 0 where
  nothing_left : second ≡ Nothing → length d.down.items ≡ 0 → (d.one.dest ≡ default_prefix → ⊥) → IsSecondOf d second
  left_unknown : second ≡ Unknown → IsSecondOf d second

-- what decides over a zone for the routers of a lane, behind what level 1 offers: at those of both levels what is announced
-- into level 2
pub data IsSecondIn (net : Network) (lane : LevelLane) (zone : ℕ) (d : Destination) (second : Decision) : Type 0 where
  behind_one : lane ≡ OneAlone → IsSecondOf d second → IsSecondIn net lane zone d second
  behind_both : lane ≡ Both → zone ≡ 1 → IsDecisionBy net Two d.one.homes.items d.two.items second → IsSecondIn net lane zone d second
  not_known : second ≡ Unknown → IsSecondIn net lane zone d second

-- behind the first decision there is that
pub record IsBehindIn (net : Network) (lane : LevelLane) (zone : ℕ) (d : Destination) (behind : BehindValue) : Type 0 where
  pub first : IsFirstOf net d behind.first
  pub second : IsSecondIn net lane zone d behind.second
