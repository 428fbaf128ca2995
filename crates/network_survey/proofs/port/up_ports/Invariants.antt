use Rattle.network_survey.specs.Ports.{ListsUpPorts}
use Rattle.network_survey.specs.steps.PortLists.{IsPortTo}
use Rattle.network_survey.proofs.port.up_ports.Given as goal

abbrev pub invariant-loop-router : goal.invariant-loop-router
invariant-loop-router l = ListsUpPorts (IsPortTo l.net l.router 0) l.ports.items
