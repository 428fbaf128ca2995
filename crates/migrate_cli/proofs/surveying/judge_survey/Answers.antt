use Rattle.std.proofs.lemmas.Grind.{common_steps}
use Rattle.std.proofs.Common.{ℕ, List, arith, subst, sym}
use Rattle.std.proofs.lemmas.List.{length-map}
use Rattle.survey_report.specs.SurveyFiles.{survey_files}
use Rattle.survey_report.specs.SurveyTexts.{IsSurveyText, SurveyText}
use Rattle.migrate_cli.specs.Outcomes.IsOutcome.{surveyed}
use Rattle.migrate_cli.proofs.FileFacts.{short_configs, survey_each, survey_short, survey_texts}
use Rattle.migrate_cli.proofs.surveying.judge_survey.Goals as goal

pub survey_text-requires-clause-lengths : goal.survey_text-requires-clause-lengths
survey_text-requires-clause-lengths c = grind (arith, common_steps, length-map, survey_each)

pub survey_text-requires-clause-short : goal.survey_text-requires-clause-short
survey_text-requires-clause-short c = grind (arith, common_steps, short_configs, survey_short)

pub returns : goal.returns
returns c =
    let command = c.args.command.now in
    let texts = c.args.texts.now in
    let survey : SurveyText = record { text = c.text.inside.text; stands_out = c.text.inside.stands_out } in
    let is : IsSurveyText (survey_files command.configs texts) survey =
    subst (IsSurveyText (survey_files command.configs texts)) (sym c.text.view_is)
    (subst (λ (names : List (List ℕ)). IsSurveyText (survey_files names texts) c.in_ok-text.field-0) c.as_slice.ensures c.in_ok-text.ensures) in
    surveyed survey c.requires.kind
    (subst (λ (some : List (List ℕ)). IsSurveyText (survey_files command.configs some) survey)
    (sym (survey_texts command c.requires.kind c.requires.range texts)) is)
