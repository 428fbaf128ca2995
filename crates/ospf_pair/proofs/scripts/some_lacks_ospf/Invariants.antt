use Rattle.std.proofs.Common.{◌≡◌, false, take}
use Rattle.std.specs.List.{list_any}
use Rattle.ospf_pair.specs.PairScripts.{lacks_ospf}
use Rattle.ospf_pair.proofs.scripts.some_lacks_ospf.Given as goal

abbrev pub invariant-loop-router : goal.invariant-loop-router
invariant-loop-router l = list_any lacks_ospf (take l.router l.net) ≡ false
