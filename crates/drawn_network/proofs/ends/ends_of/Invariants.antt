use Rattle.std.proofs.Common.{◌≡◌}
use Rattle.std.specs.List.{flat_map}
use Rattle.order_core.specs.Rankings.{numbers_below}
use Rattle.drawn_network.specs.LinkEnds.{router_ends}
use Rattle.drawn_network.proofs.ends.ends_of.Given as goal

abbrev pub invariant-loop-router : goal.invariant-loop-router
invariant-loop-router l = l.ends.items ≡ flat_map (router_ends l.net) (numbers_below l.router)
