-- Loops of the network, and the fault of an unsound state (Vanbever et al., SIGCOMM 2011).
use Rattle.std.specs.Prelude.{◌≡◌, ◌≢◌, ℕ, ◌^◌, ◌<◌, ◌≤◌, List, [], ◌∷◌, ◌++◌, length, All, AllPairs}
use Rattle.order_core.specs.Turns.{routers_of}
use Rattle.order_core.specs.declared.turn.Tag.{Tag}
use Rattle.order_core.specs.declared.turn.Tag.TheVariants as tag
use Rattle.order_core.specs.declared.turn.Turn.{Turn}
use Rattle.igp_theory.specs.Forwarding.{MustForward, Steps, HasStep}
use Rattle.igp_theory.specs.Migrations.{Migration}
use Rattle.igp_theory.specs.Phases.{State}
use Rattle.igp_theory.specs.States.{StepsIn, Follows, IsSoundAt, IsSound, state_of}
use Rattle.igp_theory.specs.declared.phase.Phase.TheVariants.{New}

-- which tag says what two phases do: Old where only the first of them does it, New where only the second does, Both where
-- both do
abbrev pub IsTagOf : Tag → Type 0 → Type 0 → Type 0
IsTagOf tag.Old old new = old × (¬ new)
IsTagOf tag.New old new = (¬ old) × new
IsTagOf tag.Both old new = old × new

-- the tag of a ring's router says in which of two phases it steps to the next router: in that of the start, which is Old
-- where the migration begins, and in New
pub record IsTag (move : Migration) (a : ℕ) (turn : Turn) (next : ℕ) : Type 0 where
  pub steps : IsTagOf turn.tag (Steps move turn.router (move.start turn.router) a next) (Steps move turn.router New a next)

-- R holds of each router of a list and the next one, and of the last one and `first`
abbrev pub EachToNext : {A : Type 0} → (A → A → Type 0) → A → List A → Type 0
EachToNext R first [] = Unit {0}
EachToNext R first (r ∷ []) = R r first
EachToNext R first (r ∷ s ∷ rest) = R r s × EachToNext R first (s ∷ rest)

-- R holds round a ring: of each router and the next one, and of the last and the first
abbrev pub AroundRing : {A : Type 0} → (A → A → Type 0) → List A → Type 0
AroundRing R [] = Unit {0}
AroundRing R (r ∷ rest) = EachToNext R r (r ∷ rest)

-- a loop of the network: an address, and a ring of two or more distinct routers with their tags.
-- By its tag each of them has to pass packets on: the address has a target that it doesn't originate
pub record IsLoop (move : Migration) (a : ℕ) (ring : List Turn) : Type 0 where
  pub address : a < 2 ^ 32
  pub some : 2 ≤ length ring
  pub distinct : AllPairs (λ (r s : Turn). r.router ≢ s.router) ring
  pub tags : AroundRing (λ (r s : Turn). IsTag move a r s.router) ring

-- a loop arises in a state where each of its routers steps there to the next
abbrev pub Arises : Migration → State → ℕ → List Turn → Type 0
Arises move state a ring =
    AroundRing (λ (r s : Turn). StepsIn move state a r.router s.router) ring

-- what is wrong in an unsound state, at its least address: a router without a step, or a loop
pub data Fault : Type 0 where
  missing : (address router : ℕ) → Fault
  loop : (address : ℕ) → List Turn → Fault

-- among n routers, one is live where a list of n steps starts at it
pub record IsLive (step : ℕ → ℕ → Type 0) (n u : ℕ) : Type 0 where
  pub hops : List ℕ
  pub last : ℕ
  pub many : length hops ≡ n
  pub follows : Follows step u hops last

-- the lowest-numbered live router
pub record IsLowestLive (step : ℕ → ℕ → Type 0) (n u : ℕ) : Type 0 where
  pub live : IsLive step n u
  pub lowest : (v : ℕ) → IsLive step n v → u ≤ v

-- the lowest-numbered live hop of u
pub record IsLowestLiveHop (step : ℕ → ℕ → Type 0) (n u h : ℕ) : Type 0 where
  pub steps : step u h
  pub live : IsLive step n h
  pub lowest : (v : ℕ) → step u v → IsLive step n v → h ≤ v

-- from the lowest-numbered live router one goes each time to the lowest-numbered live hop until a
-- router repeats; the ring is the part from that router's first visit on, turned so that its
-- lowest-numbered router is first
pub record IsFoundRing (step : ℕ → ℕ → Type 0) (n : ℕ) (ring : List ℕ) : Type 0 where
  pub start : ℕ
  pub visited : List ℕ
  pub begins : IsLowestLive step n start
  pub lead : List ℕ
  pub again : ℕ
  pub rest : List ℕ
  pub in_order : start ∷ visited ≡ lead ++ again ∷ rest
  pub distinct : AllPairs (λ u v. u ≢ v) (start ∷ visited)
  pub goes : EachToNext (IsLowestLiveHop step n) again (start ∷ visited)
  pub front : List ℕ
  pub back : List ℕ
  pub found : again ∷ rest ≡ front ++ back
  pub turned : ring ≡ back ++ front
  pub lowest : ℕ
  pub others : List ℕ
  pub first : ring ≡ lowest ∷ others
  pub least : All (λ u. lowest ≤ u) others

-- the fault of an unsound state: at the least address for which it isn't sound the lowest-numbered
-- router that lacks a step, else the ring that is found, with its tags
pub data IsFault (move : Migration) (state : State) : Fault → Type 0 where
  missing_step : {a u : ℕ} → a < 2 ^ 32 → ((b : ℕ) → b < a → IsSoundAt move state b) →
      MustForward move.net a u → (HasStep move u (state u) a → ⊥) →
      ((v : ℕ) → v < u → MustForward move.net a v → HasStep move v (state v) a) →
      IsFault move state (missing a u)
  loop_arises : {a : ℕ} {ring : List Turn} → a < 2 ^ 32 → ((b : ℕ) → b < a → IsSoundAt move state b) →
      ((v : ℕ) → MustForward move.net a v → HasStep move v (state v) a) →
      IsFoundRing (StepsIn move state a) (length move.net) (routers_of ring) →
      AroundRing (λ (r s : Turn). IsTag move a r s.router) ring →
      IsFault move state (loop a ring)

-- the first fault of an order: the number of its first unsound state, with that state's fault
pub record IsFirstFault (move : Migration) (order : List ℕ) (k : ℕ) (fault : Fault) : Type 0 where
  pub before : (j : ℕ) → j < k → IsSound move (state_of order j)
  pub here : IsFault move (state_of order k) fault
