use Rattle.std.proofs.Common.{arith}
use Rattle.std.proofs.lemmas.Grind.{common_steps}
use Rattle.migrate_cli.proofs.why.explain_mixed.Goals as goal

pub explain_order-requires-clause-ones : goal.explain_order-requires-clause-ones
explain_order-requires-clause-ones c = c.args.read.now.ones c.in-One.is

pub returns-in-One : goal.returns-in-One
returns-in-One c = grind (arith, common_steps)

pub returns-in-Two : goal.returns-in-Two
returns-in-Two c = grind (arith, common_steps)
