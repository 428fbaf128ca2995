use Rattle.std.proofs.lemmas.Grind.{common_steps}
use Rattle.std.proofs.Common.{arith}
use Rattle.precedence_set.proofs.LayerFacts.{pair_at_below}
use Rattle.precedence_set.proofs.ChainFacts.{AreParents-passed, AreParents-more, parents_lowest}
use Rattle.precedence_set.proofs.chaining.find_parents.Goals.{then-layers-u, else-layers-u}
use Rattle.precedence_set.proofs.chaining.find_parents.Goals as goal

pub loop-i-preserved : goal.loop-i-preserved
loop-i-preserved c = grind (arith, common_steps, AreParents-more, AreParents-passed, pair_at_below)

pub returns-clause-lowest : goal.returns-clause-lowest
returns-clause-lowest c = parents_lowest c.args.pairs.now c.args.layers.now c.loop-i.parents 4294967295 c.loop-i.i c.loop-i.invariant c.loop-i-test.false
