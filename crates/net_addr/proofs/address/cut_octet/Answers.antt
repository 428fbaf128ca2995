use Rattle.std.proofs.Common.{arith}
use Rattle.std.proofs.lemmas.Grind.{common_steps}
use Rattle.net_addr.proofs.AddressWordFacts.{cut_at_dot, no_dot_no_cut}
use Rattle.net_addr.proofs.address.cut_octet.Goals as goal

pub returns-in_err-dot-clause-none : goal.returns-in_err-dot-clause-none
returns-in_err-dot-clause-none c = rw c.from_residual.ensures (λ part rest octet. no_dot_no_cut c.args.word.now part rest c.in_err-dot.ensures.none)

pub returns-in_err-octet-clause-none : goal.returns-in_err-octet-clause-none
returns-in_err-octet-clause-none c = grind (arith, common_steps, cut_at_dot)
