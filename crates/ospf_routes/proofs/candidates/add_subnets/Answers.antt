use Rattle.route_tables.proofs.ListFacts.{adds_step, adds_end}
use Rattle.ospf_routes.specs.steps.Candidates.{HasOspfSubnet}
use Rattle.ospf_routes.proofs.candidates.add_subnets.Goals as goal

pub loop-interface-preserved : goal.loop-interface-preserved
loop-interface-preserved c =
    adds_step HasOspfSubnet c.args.dests.now c.loop-interface.dests c.add_option.new.self c.args.interfaces.now c.loop-interface.interface-index
    c.interface-item.result c.subnet_of.result
    c.loop-interface-test.true c.interface-item.is c.loop-interface.invariant c.in_ok-add_option.ensures.ok c.subnet_of.ensures

pub returns : goal.returns
returns c =
    adds_end HasOspfSubnet c.args.dests.now c.loop-interface.dests c.args.interfaces.now c.loop-interface.interface-index c.loop-interface-test.false
    c.loop-interface.invariant
