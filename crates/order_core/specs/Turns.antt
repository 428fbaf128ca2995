-- Turns of a ring: which routers still step by the old routes only, and which by the new ones only.
use Rattle.std.specs.Prelude.{ℕ, ◌<◌, Bool, true, false, List, length, map, Contains}
use Rattle.std.specs.List.{filter, flat_map}
use Rattle.order_core.specs.Pairs.{Pair}
use Rattle.order_core.specs.Rankings.{KeepsPair}
use Rattle.order_core.specs.declared.turn.Tag.{Tag}
use Rattle.order_core.specs.declared.turn.Tag.TheVariants.{Old, New, Both}
use Rattle.order_core.specs.declared.turn.Turn.{Turn}

-- whether a tag is Old
abbrev pub is_old : Tag → Bool
is_old Old = true
is_old New = false
is_old Both = false

-- whether a tag is New
abbrev pub is_new : Tag → Bool
is_new Old = false
is_new New = true
is_new Both = false

-- the routers of some turns, in the order of the turns
abbrev pub routers_of : List Turn → List ℕ
routers_of turns = map (λ (t : Turn). t.router) turns

-- the routers of the Old turns, in the order of the turns
abbrev pub old_routers : List Turn → List ℕ
old_routers turns = routers_of (filter (λ (t : Turn). is_old t.tag) turns)

-- the routers of the New turns, in the order of the turns
abbrev pub new_routers : List Turn → List ℕ
new_routers turns = routers_of (filter (λ (t : Turn). is_new t.tag) turns)

-- some turn is Old and some turn is New
pub record HasBothTags (turns : List Turn) : Type 0 where
  pub old : 0 < length (old_routers turns)
  pub new : 0 < length (new_routers turns)

-- a ranking gives some Old turn's router a lower rank than some New turn's router
pub record RanksSomeOldFirst (ranks : List ℕ) (turns : List Turn) : Type 0 where
  pub old : ℕ
  pub new : ℕ
  pub is_old : Contains (old_routers turns) old
  pub is_new : Contains (new_routers turns) new
  pub keeps : KeepsPair ranks (old, new)

-- what the children of a branch assume besides: each Old turn's router before each New turn's router,
-- by the Old turn first and then by the New turn
abbrev pub child_pairs : List Turn → List Pair
child_pairs turns = flat_map (λ (u : ℕ). map (λ (v : ℕ). (u, v)) (new_routers turns)) (old_routers turns)
