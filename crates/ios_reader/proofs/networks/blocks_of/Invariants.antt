use Rattle.std.proofs.Common.{◌≡◌, ℕ, take}
use Rattle.std.specs.Prelude.{find}
use Rattle.indexmap.specs.IndexMap.{get}
use Rattle.ios_reader.specs.steps.Networks.{same_block, is_of_block}
use Rattle.ios_reader.proofs.networks.blocks_of.Given as goal

abbrev pub invariant-loop-line : goal.invariant-loop-line
invariant-loop-line l = (key : ℕ × ℕ) → get same_block l.blocks key ≡ find (is_of_block key) (take l.line-index l.all)
