use Rattle.route_tables.proofs.ListFacts.{adds_step, exactly_added, adds_end}
use Rattle.ospf_routes.specs.steps.Subnets.{IsSubnetRoute}
use Rattle.ospf_routes.proofs.subnets.put_routes.Goals as goal

pub loop-subnet-preserved : goal.loop-subnet-preserved
loop-subnet-preserved c =
    adds_step (IsSubnetRoute c.args.dest) c.clear.new.self.items c.loop-subnet.routes.items c.push_option.new.all.items c.args.subnets.now
    c.loop-subnet.subnet-index c.subnet-item.result c.route_to.result c.loop-subnet-test.true c.subnet-item.is
    c.loop-subnet.invariant c.in_ok-push_option.ensures.ok c.route_to.ensures

pub returns : goal.returns
returns c =
    exactly_added c.clear.new.self.items c.loop-subnet.routes.items _ c.clear.ensures.items
    (adds_end (IsSubnetRoute c.args.dest) c.clear.new.self.items c.loop-subnet.routes.items c.args.subnets.now c.loop-subnet.subnet-index
    c.loop-subnet-test.false c.loop-subnet.invariant)
