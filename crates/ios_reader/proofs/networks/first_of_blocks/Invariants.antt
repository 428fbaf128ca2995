use Rattle.std.proofs.Common.{◌≡◌, take}
use Rattle.indexmap.specs.IndexMap.{get}
use Rattle.ios_reader.specs.steps.Networks.{same_block, first_of_blocks}
use Rattle.ios_reader.proofs.networks.first_of_blocks.Given as goal

abbrev pub invariant-loop-wildcard : goal.invariant-loop-wildcard
invariant-loop-wildcard l = l.found ≡ first_of_blocks (get same_block l.blocks) (take l.wildcard-index l.wildcards) l.address
