use Rattle.std.proofs.Common.{subst}
use Rattle.std.specs.Bool.{OnFalse}
use Rattle.loop_finder.specs.Calm.{WaveStep}
use Rattle.loop_finder.specs.Returns.{NeverReturnsTo}
use Rattle.loop_finder.specs.Times.{times_in}
use Rattle.loop_finder.specs.steps.Calm.{WaveState}
use Rattle.loop_finder.proofs.OnFalse.{on_false}
use Rattle.loop_finder.proofs.calm.stirs.Goals as goal

pub returns-clause-never : goal.returns-clause-never
returns-clause-never c = on_false c.may_return.result
    (subst (λ (x : WaveState). OnFalse c.may_return.result (NeverReturnsTo (WaveStep x.part (times_in x.times) x.wave) c.args.router)) c.new-steps.ensures
    c.may_return.ensures.never) (λ never. record { never = λ changes. never })
