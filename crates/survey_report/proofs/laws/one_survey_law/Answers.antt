use Rattle.survey_report.proofs.SurveyOnce.{one_survey}
use Rattle.survey_report.proofs.laws.one_survey_law.Goals as goal

pub returns : goal.returns
returns c = one_survey
