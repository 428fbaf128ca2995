use Rattle.net_model.specs.steps.Claims.{NeighborsAgree}
use Rattle.net_model.proofs.claims.neighbors_agree.Given as goal

abbrev pub invariant-loop-next : goal.invariant-loop-next
invariant-loop-next l = NeighborsAgree l.claims l.next
