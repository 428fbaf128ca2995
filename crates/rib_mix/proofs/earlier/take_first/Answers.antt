use Rattle.std.proofs.Common.{arith}
use Rattle.std.proofs.lemmas.Grind.{common_steps}
use Rattle.std.proofs.lemmas.Option.{slice_get_read}
use Rattle.rib_mix.proofs.EarlierLaws.{earlier_of}
use Rattle.rib_mix.proofs.earlier.take_first.Goals as goal

pub returns-else-is_none-clause-earlier : goal.returns-else-is_none-clause-earlier
returns-else-is_none-clause-earlier c = grind (arith, common_steps, earlier_of, slice_get_read)
