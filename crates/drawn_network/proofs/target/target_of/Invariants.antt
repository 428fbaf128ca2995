use Rattle.net_addr.specs.LongestMatches.{IsBestMatch}
use Rattle.drawn_network.specs.steps.Originated.{IsOriginatedTo}
use Rattle.drawn_network.proofs.target.target_of.Given as goal

abbrev pub invariant-loop-router : goal.invariant-loop-router
invariant-loop-router l = IsBestMatch (IsOriginatedTo l.net l.router 0) l.a l.best
