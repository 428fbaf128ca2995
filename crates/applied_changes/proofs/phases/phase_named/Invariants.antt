use Rattle.std.proofs.Common.{◌≡◌, drop}
use Rattle.igp_theory.specs.States.{state_of}
use Rattle.applied_changes.specs.NamedPhases.{phase_from}
use Rattle.applied_changes.proofs.phases.phase_named.Given as goal

abbrev pub invariant-loop-router : goal.invariant-loop-router
invariant-loop-router l =
    phase_from l.router (drop l.router l.net) (state_of l.order l.changes) l.name ≡ phase_from 0 l.net (state_of l.order l.changes) l.name
