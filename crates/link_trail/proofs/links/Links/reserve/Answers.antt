use Rattle.std.proofs.lemmas.Grind.{common_steps}
use Rattle.std.proofs.Common.{arith}
use Rattle.link_trail.proofs.MoveLemmas.{length-lists_before}
use Rattle.link_trail.proofs.links.Links.reserve.Goals as goal

pub invariant_of-self-2 : goal.invariant_of-self-2
invariant_of-self-2 c = grind (arith, common_steps, length-lists_before)
