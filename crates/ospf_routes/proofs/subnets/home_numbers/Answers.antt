use Rattle.route_tables.proofs.ListFacts.{adds_step, exactly_added, adds_end}
use Rattle.ospf_routes.specs.steps.Subnets.{IsHome}
use Rattle.ospf_routes.proofs.subnets.home_numbers.Goals as goal

pub loop-subnet-preserved : goal.loop-subnet-preserved
loop-subnet-preserved c =
    adds_step (IsHome c.args.dest) c.in_ok-homes.homes.items c.loop-subnet.homes.items c.push_option.new.all.items c.args.subnets.now
    c.loop-subnet.subnet-index c.subnet-item.result c.home_at.result c.loop-subnet-test.true c.subnet-item.is
    c.loop-subnet.invariant c.in_ok-push_option.ensures.ok c.home_at.ensures

pub returns : goal.returns
returns c =
    exactly_added c.in_ok-homes.homes.items c.loop-subnet.homes.items _ c.in_ok-homes.ensures.items
    (adds_end (IsHome c.args.dest) c.in_ok-homes.homes.items c.loop-subnet.homes.items c.args.subnets.now c.loop-subnet.subnet-index
    c.loop-subnet-test.false c.loop-subnet.invariant)
