use Rattle.std.proofs.Common.{take}
use Rattle.ios_reader.specs.steps.Networks.{HasWildcards}
use Rattle.ios_reader.proofs.networks.wildcards_of.Given as goal

abbrev pub invariant-loop-line : goal.invariant-loop-line
invariant-loop-line l = HasWildcards (take l.line-index l.all) l.wildcards.items
