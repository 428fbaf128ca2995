use Rattle.std.proofs.Common.{ℕ}
use Rattle.net_model.specs.declared.interface.Interface.{Interface}
use Rattle.route_tables.proofs.ListFacts.{adds_step, adds_end}
use Rattle.net_model.specs.Network.{RunsArea}
use Rattle.ospf_routes.proofs.areas.add_areas.Goals as goal

pub loop-interface-preserved : goal.loop-interface-preserved
loop-interface-preserved c =
    adds_step (λ (n : ℕ) (i : Interface). RunsArea n i)
    c.args.numbers.now.items c.loop-interface.numbers.items c.add_area.new.numbers.items c.args.interfaces.now c.loop-interface.interface-index
    c.interface-item.result c.area_of.result c.loop-interface-test.true c.interface-item.is c.loop-interface.invariant c.in_ok-add_area.ensures
    c.area_of.ensures

pub returns : goal.returns
returns c =
    adds_end (λ (n : ℕ) (i : Interface). RunsArea n i)
    c.args.numbers.now.items c.loop-interface.numbers.items c.args.interfaces.now c.loop-interface.interface-index c.loop-interface-test.false
    c.loop-interface.invariant
