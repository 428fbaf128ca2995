use Rattle.loop_finder.specs.steps.PartRows.{AreFirstRows}
use Rattle.loop_finder.specs.Mixes.{mix_of, class_in}
use Rattle.loop_finder.proofs.part.rows_of.Given as goal

abbrev pub invariant-loop-router : goal.invariant-loop-router
invariant-loop-router g l = AreFirstRows (class_in (mix_of g.O.RouteSource.table g.N.RouteSource.table l.mixed) l.class.atom) l.marks l.router l.rows
