use Rattle.std.proofs.Common.{◌≤◌, subst}
use Rattle.std.proofs.lemmas.List.{take_all}
use Rattle.net_model.specs.steps.Subnets.{BestSubnet, HasSubnetAround, pick_longer}
use Rattle.net_model.proofs.Bests.{IsBest-more, picks_longer}
use Rattle.net_model.proofs.subnets.longest_subnet.Goals as goal

pub loop-interface-preserved : goal.loop-interface-preserved
loop-interface-preserved c =
    IsBest-more (λ p q. q.len ≤ p.len) pick_longer picks_longer (HasSubnetAround c.args.a) c.args.interfaces.now c.loop-interface.interface-index
    c.interface-item.result c.loop-interface.best c.subnet_around.result c.longer-best.result c.loop-interface-test.true c.interface-item.is
    c.longer-best.ensures c.loop-interface.invariant c.subnet_around.ensures

pub returns : goal.returns
returns c =
    subst (λ l. BestSubnet c.args.a l c.loop-interface.best) (take_all c.loop-interface.interface-index c.args.interfaces.now c.loop-interface-test.false)
    c.loop-interface.invariant
