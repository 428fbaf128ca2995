use Rattle.std.proofs.Common.{List, sym, ap, subst, ◌∙◌}
use Rattle.std.specs.List.{list_any}
use Rattle.std.proofs.lemmas.Result.{IfOk-weaker}
use Rattle.net_model.specs.Configuration.{Configuration}
use Rattle.survey_report.specs.FaultTexts.{faults_text}
use Rattle.survey_report.specs.SurveyFiles.{FileFaults, is_faulty_file}
use Rattle.survey_report.specs.SurveyTexts.{IsConfigurationsSurvey, standing_out}
use Rattle.survey_report.specs.SurveyTexts.IsSurveyText.{faulty, read}
use Rattle.survey_report.proofs.survey.files_survey.Goals as goal

pub returns-then-any_faulty : goal.returns-then-any_faulty
returns-then-any_faulty c =
    IfOk-weaker c.faults_survey.result _ _
    (λ survey is.
    faulty c.in_ok-read.read.found c.in_ok-read.ensures.found
    (sym (c.any_faulty.ensures ∙ ap (list_any is_faulty_file) c.found.ensures) ∙ c.if-any_faulty.true)
    (is ∙ ap (λ (all : List FileFaults). standing_out (faults_text all)) c.found-then-any_faulty.ensures)) c.faults_survey.ensures

pub returns : goal.returns
returns c =
    IfOk-weaker c.configurations_survey.result _ _
    (λ survey told.
    read c.in_ok-read.read.configs
    (c.in_ok-read.ensures.configs (sym (c.any_faulty.ensures ∙ ap (list_any is_faulty_file) c.found.ensures) ∙ c.if-any_faulty.false))
    (subst (λ (configs : List Configuration). IsConfigurationsSurvey c.args.files.now configs survey) c.into_configs.ensures told))
    c.configurations_survey.ensures
