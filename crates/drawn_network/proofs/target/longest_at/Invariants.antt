use Rattle.net_addr.specs.LongestMatches.{IsBestMatch}
use Rattle.drawn_network.specs.steps.Originated.{IsOriginatedTo}
use Rattle.drawn_network.proofs.target.longest_at.Given as goal

abbrev pub invariant-loop-place : goal.invariant-loop-place
invariant-loop-place l = IsBestMatch (IsOriginatedTo l.net l.router l.place) l.a l.best
