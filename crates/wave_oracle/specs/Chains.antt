-- What the chain of planned waves shows: why each of its routers, or of its changes, has to come before the next one.
use Rattle.std.specs.Prelude.{◌≡◌, ℕ, suc, ◌<◌, List, length, slice_index, Contains}
use Rattle.igp_theory.specs.Changes.{first, second}
use Rattle.igp_theory.specs.Loops.{IsLoop}
use Rattle.igp_theory.specs.Migrations.{Migration}
use Rattle.igp_theory.specs.Timetables.{change_number}
use Rattle.order_core.specs.Turns.{old_routers, new_routers}
use Rattle.order_core.specs.declared.turn.Turn.{Turn}
use Rattle.plan_theory.specs.Ranked.{changes_ranked}
use Rattle.plan_theory.specs.WavesMeaning.{LoopFor}

-- Routers

-- in a loop of the network u is tagged Old and v is tagged New: it arises only while u has its old routes and v its new ones
pub record AreTaggedInLoop (move : Migration) (u v : ℕ) : Type 0 where
  pub address : ℕ
  pub ring : List Turn
  pub is_loop : IsLoop move address ring
  pub is_old : Contains (old_routers ring) u
  pub is_new : Contains (new_routers ring) v

-- each two neighbors of a chain are tagged Old and New in one loop of the network
abbrev pub IsTaggedChain : Migration → List ℕ → Type 0
IsTaggedChain move chain =
    (k : ℕ) → suc k < length chain → AreTaggedInLoop move (slice_index chain k) (slice_index chain (suc k))

-- Single changes

-- in a loop of the network u is tagged Old and v is tagged New, where each turn names the change at which its router switches the
-- address of the loop
pub record SwitchInLoop (move : Migration) (u v : ℕ) : Type 0 where
  pub address : ℕ
  pub turns : List Turn
  pub is_loop : LoopFor move (changes_ranked move) address turns
  pub is_old : Contains (old_routers turns) u
  pub is_new : Contains (new_routers turns) v

-- why a change has to come before another one: they are the first and the second of one router, or a loop has them
pub data MustPrecede (move : Migration) (u v : ℕ) : Type 0 where
  of_one_router : (router : ℕ) → u ≡ change_number (first router) → v ≡ change_number (second router) → MustPrecede move u v
  of_loop : SwitchInLoop move u v → MustPrecede move u v

-- so it is with each two neighbors of a chain of changes
abbrev pub IsChangeChain : Migration → List ℕ → Type 0
IsChangeChain move chain = (k : ℕ) → suc k < length chain → MustPrecede move (slice_index chain k) (slice_index chain (suc k))
