-- Turns of two routers, one Old and one New: what the oracles of tests and measurements tell.
use Rattle.std.specs.Prelude.{ℕ, List, [], ◌∷◌, refl}
use Rattle.std.proofs.Common.{arith}
use Rattle.order_core.specs.Rankings.{KeepsPair}
use Rattle.order_core.specs.Turns.{RanksSomeOldFirst}
use Rattle.order_core.specs.declared.turn.Turn.{Turn}
use Rattle.order_core.specs.declared.turn.Tag.TheVariants.{Old, New}

-- the turns of an Old router and a New one
abbrev pub two_turns : ℕ → ℕ → List Turn
two_turns old new = record { router = old; tag = Old } ∷ record { router = new; tag = New } ∷ []

-- a ranking that keeps the pair of the two routers ranks the Old one first
pub RanksSomeOldFirst-two : (ranks : List ℕ) (old new : ℕ) → KeepsPair ranks (old, new) → RanksSomeOldFirst ranks (two_turns old new)
RanksSomeOldFirst-two ranks old new keeps =
    record { old = old; new = new; is_old = (0, omega arith, refl); is_new = (0, omega arith, refl); keeps = keeps }
