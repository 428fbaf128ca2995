use Rattle.std.proofs.Common.{◌≢◌, List, All, sym, ap, subst, ◌∙◌}
use Rattle.std.specs.Prelude.{flat_map}
use Rattle.std.proofs.lemmas.Result.{IfOk-weaker}
use Rattle.net_model.specs.Configuration.{Configuration}
use Rattle.net_model.specs.Refusals.{MakeNetwork}
use Rattle.net_model.specs.declared.refusal.NetRefusal.{NetRefusal}
use Rattle.net_model.specs.declared.refusal.NetRefusal.TheVariants.{OutOfMemory}
use Rattle.network_survey.specs.AllRefusals.{IsSurveyed, ListsRefusals}
use Rattle.refused_texts.specs.Texts.{network_text}
use Rattle.survey_report.specs.SurveyTexts.{standing_out}
use Rattle.survey_report.specs.SurveyTexts.IsConfigurationsSurvey.{network, refused}
use Rattle.survey_report.proofs.RefusalFacts.{none_of_memory}
use Rattle.survey_report.proofs.survey.configurations_survey.Goals as goal

pub returns-in-Network : goal.returns-in-Network
returns-in-Network c =
    let made : MakeNetwork c.args.configs.items c.in-Network.net =
    subst (λ (configs : List Configuration). MakeNetwork configs c.in-Network.net) c.from_vec.ensures
    (subst (IsSurveyed c.from_vec.result) c.in-Network.is c.in_ok-surveyed.ensures) in
    IfOk-weaker c.network_survey.result _ _ (λ survey told. network c.in-Network.net made told) c.network_survey.ensures

pub refusals_survey-requires : goal.refusals_survey-requires
refusals_survey-requires c =
    let both = subst (IsSurveyed c.from_vec.result) c.in-Refused.is c.in_ok-surveyed.ensures in
    subst (All (λ (refusal : NetRefusal). refusal ≢ OutOfMemory)) (sym c.as_slice.ensures.value)
    (none_of_memory c.from_vec.result c.in-Refused.found.items both.0)

pub returns-in-Refused : goal.returns-in-Refused
returns-in-Refused c =
    let both = subst (IsSurveyed c.from_vec.result) c.in-Refused.is c.in_ok-surveyed.ensures in
    let lists : ListsRefusals c.args.configs.items c.in-Refused.found.items =
    subst (λ (configs : List Configuration). ListsRefusals configs c.in-Refused.found.items) c.from_vec.ensures both.0 in
    IfOk-weaker c.refusals_survey.result _ _
    (λ survey is.
    refused c.in-Refused.found.items lists both.1
    (is ∙ ap (λ (found : List NetRefusal). standing_out (flat_map network_text found)) c.as_slice.ensures.value)) c.refusals_survey.ensures
