use Rattle.std.proofs.Common.{◌∙◌, List, ℕ, subst, sym, true≢false}
use Rattle.migration_report.specs.declared.decision.Decision.TheVariants.{ExplainedSafe, ExplainedUnsafe}
use Rattle.migrate_cli.specs.FailuresDecision.{IsToldFailures}
use Rattle.migrate_cli.specs.FailuresDecision.IsToldFailures.{none_breaks, some_breaks}
use Rattle.migrate_cli.proofs.failures.tell_failures.Goals as goal

pub returns-then-has_break : goal.returns-then-has_break
returns-then-has_break c =
    subst (λ (text : List ℕ). IsToldFailures c.args.net.now c.args.checked.now c.args.failed.now (ExplainedUnsafe text)) (sym c.in_ok-text.ensures)
    (some_breaks (c.has_break.ensures.0 c.if-has_break.true))

pub returns : goal.returns
returns c =
    subst (λ (text : List ℕ). IsToldFailures c.args.net.now c.args.checked.now c.args.failed.now (ExplainedSafe text)) (sym c.in_ok-text.ensures)
    (none_breaks (λ some. true≢false (sym (c.has_break.ensures.1 some) ∙ c.if-has_break.false)))
