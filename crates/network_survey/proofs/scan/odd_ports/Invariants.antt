use Rattle.std.proofs.Common.{take}
use Rattle.network_survey.specs.steps.PortLists.{Selects}
use Rattle.network_survey.proofs.scan.odd_ports.Given as goal

abbrev pub invariant-loop-port : goal.invariant-loop-port
invariant-loop-port g l = Selects (g.O.Oddness.odd l.oddness l.ports) (take l.port-index l.ports) l.found.items
