use Rattle.ospf_routes.proofs.CandidateLists.{AreCandidatesBelow}
use Rattle.ospf_routes.proofs.candidates.candidates_of.Given as goal

abbrev pub invariant-loop-router : goal.invariant-loop-router
invariant-loop-router l = AreCandidatesBelow l.net l.subnets l.router l.dests
