use Rattle.route_tables.proofs.ListFacts.{iff_then}
use Rattle.ospf_routes.proofs.subnets.Subnets.of_network.Goals as goal

pub returns : goal.returns
returns c = λ s. iff_then (c.sort_by_base.ensures.kept s) (c.in_ok-all.ensures s)
