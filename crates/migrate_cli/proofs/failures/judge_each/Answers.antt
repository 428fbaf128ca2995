use Rattle.std.proofs.Common.{arith}
use Rattle.std.proofs.lemmas.Grind.{common_steps}
use Rattle.std.proofs.Common.{List, All, length, subst, sym}
use Rattle.std.proofs.lemmas.Result.{IfOk-weaker}
use Rattle.failure_texts.specs.LinkVerdicts.{IsToldVerdict}
use Rattle.failure_texts.specs.declared.verdict.FailedLink.{FailedLink}
use Rattle.migrate_cli.proofs.FailuresLaws.{all_told}
use Rattle.migrate_cli.proofs.failures.judge_each.Goals as goal

pub tell_failures-requires-clause-told : goal.tell_failures-requires-clause-told
tell_failures-requires-clause-told g c =
    subst (λ (failed : List FailedLink). All (λ (x : FailedLink). IsToldVerdict (length c.args.net.now) x.verdict) failed)
    (sym c.as_slice.ensures.value) (all_told c.in_ok-failed.ensures)

pub returns : goal.returns
returns g c = grind (arith, common_steps, IfOk-weaker)
