use Rattle.std.proofs.Common.{arith}
use Rattle.std.proofs.lemmas.Grind.{common_steps}
use Rattle.std.proofs.Common.{subst}
use Rattle.refutation_check.specs.steps.Shapes.{LieInside}
use Rattle.refutation_check.proofs.SaidNodes.{leaf_says, leaf_says_none}
use Rattle.refutation_check.proofs.node_line.node_of.Goals as goal

pub turns_of-requires : goal.turns_of-requires
turns_of-requires c = subst (LieInside c.args.text.now) c.in-Branch.is c.requires.inside

pub numbers_named-requires-clause-inside : goal.numbers_named-requires-clause-inside
numbers_named-requires-clause-inside c = subst (LieInside c.args.text.now) c.in-Leaf.is c.requires.inside

pub returns-in-Some : goal.returns-in-Some
returns-in-Some c = grind (arith, common_steps, leaf_says)

pub returns-in-None : goal.returns-in-None
returns-in-None c = grind (arith, common_steps, leaf_says_none)
