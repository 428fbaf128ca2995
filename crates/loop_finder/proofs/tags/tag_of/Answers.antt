use Rattle.std.proofs.Common.{refl}
use Rattle.std.proofs.lemmas.Bool.{false≢true}
use Rattle.loop_finder.proofs.TagSteps.{tagged_new}
use Rattle.loop_finder.specs.steps.ClassSteps.{state_over}
use Rattle.loop_finder.proofs.tags.tag_of.Goals as goal

pub returns-in-true-false : goal.returns-in-true-false
returns-in-true-false g c = record { steps = (c.in-true-false.ensures.0 refl, λ steps. false≢true (c.in-true-false.ensures'.1 steps)) }

pub returns-in-false-default : goal.returns-in-false-default
returns-in-false-default g c = tagged_new (state_over g.O.RouteSource.table g.N.RouteSource.table c.args.steps.now) c.args.router c.args.next (λ steps.
    false≢true (c.in-false-default.ensures.1 steps)) c.requires.some
