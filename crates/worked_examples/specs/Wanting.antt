-- The oracle of the worked searches, which wants pairs to be kept.
use Rattle.std.specs.Prelude.{◌≡◌, ◌≢◌, ℕ, ◌<◌, List, All, Contains}
use Rattle.std.proofs.Common.{subst, sym}
use Rattle.order_core.specs.Pairs.{Pair}
use Rattle.order_core.specs.Turns.{RanksSomeOldFirst}
use Rattle.order_core.specs.Rankings.{KeepsPairs}
use Rattle.order_core.specs.declared.turn.Turn.{Turn}
use Rattle.order_search.specs.TwoTurns.{two_turns, RanksSomeOldFirst-two}

-- each pair is of two different numbers below n
abbrev pub AreApart : ℕ → List Pair → Type 0
AreApart n pairs = All (λ (p : Pair). (p.0 < n) × (p.1 < n) × (p.0 ≢ p.1)) pairs

-- the turns are those of a wanted pair, its first number Old and its second New
pub record AreWanted (wants : List Pair) (turns : List Turn) : Type 0 where
  pub before : ℕ
  pub after : ℕ
  pub wanted : Contains wants (before, after)
  pub are : turns ≡ two_turns before after

-- a ranking that keeps the wanted pairs ranks the first of the two numbers first
pub RanksSomeOldFirst-wanted : (wants : List Pair) (turns : List Turn) (ranks : List ℕ) → AreWanted wants turns → KeepsPairs ranks wants →
    RanksSomeOldFirst ranks turns
RanksSomeOldFirst-wanted wants turns ranks of keeps =
    subst (λ (ts : List Turn). RanksSomeOldFirst ranks ts) (sym of.are)
    (RanksSomeOldFirst-two ranks of.before of.after (keeps (of.before, of.after) of.wanted))
