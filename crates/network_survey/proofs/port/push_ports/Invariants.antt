use Rattle.network_survey.specs.Ports.{ListsUpPorts}
use Rattle.network_survey.specs.steps.PortLists.{IsPortTo}
use Rattle.network_survey.proofs.port.push_ports.Given as goal

abbrev pub invariant-loop-place : goal.invariant-loop-place
invariant-loop-place l = ListsUpPorts (IsPortTo l.net l.router l.place) l.ports.items
