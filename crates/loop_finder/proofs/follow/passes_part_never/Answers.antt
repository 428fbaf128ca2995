use Rattle.std.proofs.Common.{subst}
use Rattle.std.specs.Bool.{OnFalse}
use Rattle.loop_finder.specs.steps.Parts.{PartState, PartStep}
use Rattle.loop_finder.specs.Returns.{NeverReturnsTo}
use Rattle.loop_finder.proofs.OnFalse.{on_not}
use Rattle.loop_finder.proofs.follow.passes_part_never.Goals as goal

pub returns-clause-never : goal.returns-clause-never
returns-clause-never c = on_not (NeverReturnsTo (PartStep c.args.part.now c.args.span.now.first.now c.args.span.now.last.now) c.args.router) c.may_return.result
    (subst (λ (x : PartState). OnFalse c.may_return.result (NeverReturnsTo (PartStep x.part x.first x.last) c.args.router)) c.new-steps.ensures
    c.may_return.ensures.never)
