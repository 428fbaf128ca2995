use Rattle.std.proofs.Common.{List, ℕ, IfOk, arith, subst}
use Rattle.std.proofs.lemmas.Grind.{common_steps}
use Rattle.migrate_cli.specs.CommandFiles.{config_texts, given_texts, own_texts}
use Rattle.migrate_cli.specs.Outcomes.{IsOutcome}
use Rattle.migrate_cli.proofs.FileFacts.{sample_texts}
use Rattle.migrate_cli.proofs.judging.judge.Goals as goal

pub returns-in-Sample : goal.returns-in-Sample
returns-in-Sample g c = grind (arith, common_steps, sample_texts)

pub returns-in-Survey : goal.returns-in-Survey
returns-in-Survey g c =
    let command = c.args.command.now in
    subst (λ (texts : List (List ℕ)). IfOk c.judge_survey.result (IsOutcome command (given_texts (own_texts command texts) (config_texts command texts))))
    c.as_slice.ensures.value c.judge_survey.ensures

pub returns-in-Observe : goal.returns-in-Observe
returns-in-Observe g c =
    let command = c.args.command.now in
    subst (λ (texts : List (List ℕ)). IfOk c.judge_observe.result (IsOutcome command (given_texts (own_texts command texts) (config_texts command texts))))
    c.as_slice-in-Observe.ensures.value c.judge_observe.ensures
