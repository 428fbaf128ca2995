use Rattle.std.proofs.Common.{arith}
use Rattle.std.proofs.lemmas.Grind.{common_steps}
use Rattle.ospf_pair.proofs.AlikeInterfaces.{AreOneNetwork-from}
use Rattle.migrate_cli.proofs.moves.Move.to_ospf.Goals as goal

pub invariant_of-result : goal.invariant_of-result
invariant_of-result c = grind (arith, common_steps, AreOneNetwork-from)
