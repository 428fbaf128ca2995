use Rattle.std.proofs.Common.{◌≡◌, take}
use Rattle.std.specs.List.{filter_map}
use Rattle.failed_links.specs.steps.LinkEnds.{shared_by_end}
use Rattle.failed_links.proofs.shared.shared_subnets.Given as goal

abbrev pub invariant-loop-port : goal.invariant-loop-port
invariant-loop-port l = l.subnets.items ≡ filter_map (shared_by_end l.ports) (take l.port-index l.ports)
