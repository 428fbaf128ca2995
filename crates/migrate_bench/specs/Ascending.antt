-- The oracle that is searched over: only the ranking is good in which each number has itself as its rank.
use Rattle.std.specs.Prelude.{◌≡◌, ℕ, ◌<◌, ◌≤◌, List}
use Rattle.std.proofs.Common.{subst, sym}
use Rattle.order_core.specs.Turns.{RanksSomeOldFirst}
use Rattle.order_core.specs.Rankings.{rank_of}
use Rattle.order_core.specs.declared.turn.Turn.{Turn}
use Rattle.order_search.specs.TwoTurns.{two_turns, RanksSomeOldFirst-two}

-- of two numbers below n the lower has the lower rank
abbrev pub IsAscending : ℕ → List ℕ → Type 0
IsAscending n ranks = (a b : ℕ) → a < b → b < n → rank_of ranks a < rank_of ranks b

-- the turns are those of two numbers below n, the lower one Old and the higher one New
pub record AreRisingTurns (n : ℕ) (turns : List Turn) : Type 0 where
  pub lower : ℕ
  pub higher : ℕ
  pub rise : lower < higher
  pub within : higher < n
  pub are : turns ≡ two_turns lower higher

-- an ascending ranking ranks the lower of them first
pub RanksSomeOldFirst-ascending : {n : ℕ} {turns : List Turn} (ranks : List ℕ) → AreRisingTurns n turns → IsAscending n ranks →
    RanksSomeOldFirst ranks turns
RanksSomeOldFirst-ascending ranks rising ascending =
    subst (λ (ts : List Turn). RanksSomeOldFirst ranks ts) (sym rising.are)
    (RanksSomeOldFirst-two ranks rising.lower rising.higher (ascending rising.lower rising.higher rising.rise rising.within))

-- a scan from the last number down to `at` has seen the number of the lowest rank, and the lowest number that has a later one of no
-- higher rank, or `size` where there is none
pub record IsScanned (ranks : List ℕ) (size at : ℕ) (seen : ℕ × ℕ) : Type 0 where
  pub from : at ≤ seen.0
  pub within : seen.0 < size
  pub least : (b : ℕ) → at ≤ b → b < size → rank_of ranks seen.0 ≤ rank_of ranks b
  pub found_from : at ≤ seen.1
  pub found_within : seen.1 ≤ size
  pub late : seen.1 < size → (b : ℕ) × (seen.1 < b) × (b < size) × (rank_of ranks b ≤ rank_of ranks seen.1)
  pub rises : (a b : ℕ) → at ≤ a → a < seen.1 → a < b → b < size → rank_of ranks a < rank_of ranks b
