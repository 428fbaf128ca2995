use Rattle.rib_mix.specs.steps.Features.{AreLanesOf}
use Rattle.rib_mix.proofs.lanes.Lanes.of_tables.Given as goal

abbrev pub invariant-loop-router : goal.invariant-loop-router
invariant-loop-router l = AreLanesOf l.tables l.router l.lanes
