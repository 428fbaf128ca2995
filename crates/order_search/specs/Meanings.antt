-- What an oracle means, and what it says of a ranking.
use Rattle.std.specs.Prelude.{◌≡◌, ◌≢◌, ℕ, ◌<◌, ◌≤◌, ◌↔◌, List, [], length, All, AllPairs, Contains}
use Rattle.std.proofs.Common.{arith}
use Rattle.order_core.specs.Pairs.{Pair, AreBelow, HasNoCycle}
use Rattle.order_core.specs.Rankings.{KeepsPairs, rank_of}
use Rattle.order_core.specs.Turns.{old_routers, new_routers, HasBothTags}
use Rattle.order_core.specs.declared.turn.Turn.{Turn}
use Rattle.order_search.specs.Trees.{Real}

-- which rankings are good
abbrev pub Good : Type 1
Good = List ℕ → Type 0

-- which address and turns are the ones that are told of a ranking
abbrev pub Picked : Type 1
Picked = List ℕ → ℕ → List Turn → Type 0

-- the meaning of an oracle over so many numbers, and the pairs that are assumed from the start
pub record Meaning : Type 1 where
  pub good : Good
  pub real : Real
  pub picked : Picked
  pub size : ℕ
  pub base : List Pair

-- two oracles mean the same
pub record SameMeaning (old new : Meaning) : Type 0 where
  pub size : new.size ≡ old.size
  pub base : new.base ≡ old.base
  pub good : (ranks : List ℕ) → new.good ranks ↔ old.good ranks
  pub real : (address : ℕ) (turns : List Turn) → new.real address turns ↔ old.real address turns
  pub picked : (ranks : List ℕ) (address : ℕ) (turns : List Turn) → new.picked ranks address turns ↔ old.picked ranks address turns

-- a base: at most n pairs of numbers below n, without a cycle; so each is of two different numbers
pub record IsBase (n : ℕ) (base : List Pair) : Type 0 where
  pub few : length base ≤ n
  pub below : AreBelow n base
  pub acyclic : HasNoCycle base

-- each pair is of two numbers below n, the lower one first; so they have no cycle
abbrev pub AreRising : ℕ → List Pair → Type 0
AreRising n pairs = All (λ (p : Pair). (p.0 < p.1) × (p.1 < n)) pairs

-- the address and turns break a ranking: they are real and picked for it, their routers are distinct and among those
-- that are ranked, some turn is Old and some New, and no New turn's router stands in a later wave than an Old turn's
pub record Break (m : Meaning) (ranks : List ℕ) (address : ℕ) (turns : List Turn) : Type 0 where
  pub is_real : m.real address turns
  pub pick : m.picked ranks address turns
  pub distinct : AllPairs (λ (s t : Turn). s.router ≢ t.router) turns
  pub below : All (λ (t : Turn). t.router < m.size) turns
  pub both : HasBothTags turns
  pub no_later : (u v : ℕ) → Contains (old_routers turns) u → Contains (new_routers turns) v → rank_of ranks v ≤ rank_of ranks u

-- every ranking keeps the pairs of the empty base
pub KeepsPairs-nil : (ranks : List ℕ) → KeepsPairs ranks []
KeepsPairs-nil ranks = λ pair has. absurd (omega (arith, has.1))
