-- What is told of a branch and of a leaf at a place.
use Rattle.std.specs.Prelude.{ℕ, ◌^◌, ◌<◌, Bool, true, false, List}
use Rattle.igp_theory.specs.Loops.{AroundRing, IsTag}
use Rattle.igp_theory.specs.Migrations.{Migration}
use Rattle.order_core.specs.Turns.{HasBothTags}
use Rattle.order_core.specs.declared.turn.Tag.{Tag}
use Rattle.order_core.specs.declared.turn.Tag.TheVariants as tag
use Rattle.order_core.specs.declared.turn.Turn.{Turn}

-- a branch is of an address; each of its turns has the tag by which its router steps to the next one, and the last one to the first; some turn
-- is Old, and some is New
pub record IsRightBranch (move : Migration) (a : ℕ) (turns : List Turn) : Type 0 where
  pub address : a < 2 ^ 32
  pub tags : AroundRing (λ (r s : Turn). IsTag move a r s.router) turns
  pub both : HasBothTags turns

-- whether a tag says which of two phases step on
abbrev pub tells : Tag → Bool → Bool → Bool
tells tag.Old true true = false
tells tag.Old true false = true
tells tag.Old false new = false
tells tag.New true new = false
tells tag.New false true = true
tells tag.New false false = false
tells tag.Both true true = true
tells tag.Both true false = false
tells tag.Both false new = false
