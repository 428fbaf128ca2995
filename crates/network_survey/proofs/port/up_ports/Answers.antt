use Rattle.std.proofs.Common.{◌≡◌, length, subst, sym, arith}
use Rattle.network_survey.specs.Ports.{ListsUpPorts}
use Rattle.network_survey.specs.steps.PortLists.{IsPortTo}
use Rattle.network_survey.proofs.PortFacts.{ListsUpPorts-all, ListsUpPorts-none}
use Rattle.network_survey.proofs.port.up_ports.Goals as goal

pub loop-router-init : goal.loop-router-init
loop-router-init c = subst (ListsUpPorts (IsPortTo c.args.net.now 0 0)) (sym c.new-ports.ensures.items) (ListsUpPorts-none c.args.net.now)

pub returns : goal.returns
returns c =
    let end : c.loop-router.router ≡ length c.args.net.now = omega arith in
    ListsUpPorts-all c.args.net.now c.loop-router.ports.items
    (subst (λ u. ListsUpPorts (IsPortTo c.args.net.now u 0) c.loop-router.ports.items) end c.loop-router.invariant)
