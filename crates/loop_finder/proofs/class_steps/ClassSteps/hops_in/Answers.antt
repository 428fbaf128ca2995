use Rattle.std.proofs.Common.{◌↔◌, Contains, subst}
use Rattle.loop_finder.specs.steps.ClassSteps.{StepsBy, SourceState, state_over}
use Rattle.loop_finder.proofs.class_steps.ClassSteps.hops_in.Goals as goal

pub returns : goal.returns
returns g c h = subst (λ (x : SourceState g.row.O.Denot g.row.N.Denot).
    Contains c.class_hops.result.now h ↔ StepsBy (state_over g.O.RouteSource.table g.N.RouteSource.table x) c.args.router c.args.phase h)
    c.self.view_is (c.class_hops.ensures h)
