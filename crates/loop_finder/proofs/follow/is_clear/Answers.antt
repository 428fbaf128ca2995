use Rattle.std.proofs.lemmas.Grind.{common_steps}
use Rattle.std.proofs.Common.{ℕ, Contains, arith, subst, sym}
use Rattle.std.specs.Bool.{OnTrue}
use Rattle.loop_finder.specs.steps.Parts.{PartState, PartStep}
use Rattle.loop_finder.specs.steps.Walks.{ReturnsNever}
use Rattle.loop_finder.proofs.PartRows.{steppers_step}
use Rattle.loop_finder.proofs.follow.is_clear.Goals as goal

pub returns_never-requires-clause-below : goal.returns_never-requires-clause-below
returns_never-requires-clause-below c k d inside = grind (arith, common_steps)

pub returns_never-requires-clause-whole : goal.returns_never-requires-clause-whole
returns_never-requires-clause-whole c = subst (λ (x : PartState). (u h : ℕ) → PartStep x.part x.first x.last u h → Contains c.steppers.result.now u)
    (sym c.new-steps.ensures) (steppers_step c.args.part.now c.args.span.now.first.now c.args.span.now.last.now c.steppers.result.now c.steppers.ensures)

pub returns-clause-never : goal.returns-clause-never
returns-clause-never c =
    subst (λ (x : PartState). OnTrue c.returns_never.result (ReturnsNever (PartStep x.part x.first x.last))) c.new-steps.ensures c.returns_never.ensures
