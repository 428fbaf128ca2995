-- Files have one survey.
use Rattle.std.proofs.Common.{◌≡◌, ◌≢◌, ◌||◌, List, [], ◌∷◌, ◌++◌, length, refl, sym, ap, subst, ◌∙◌, arith, IsTrue}
use Rattle.std.specs.Prelude.{flat_map, nat_lt}
use Rattle.std.specs.List.{list_any}
use Rattle.std.proofs.lemmas.Bool.{false≢true}
use Rattle.net_model.specs.Configuration.{Configuration}
use Rattle.net_model.specs.Network.{Network}
use Rattle.net_model.specs.Refusals.{MakeNetwork, Stands, HoldsOfNetwork}
use Rattle.net_model.specs.declared.refusal.LimitWhat.TheVariants.{Routers, Interfaces, Dests}
use Rattle.net_model.specs.declared.refusal.NetRefusal.{NetRefusal}
use Rattle.net_model.specs.declared.refusal.NetRefusal.TheVariants.{Limit, TwoNames, AddressTwice, PrefixInTwoAreas, BorderWithoutBackbone}
use Rattle.net_model.specs.declared.refusal.NetRefusal.TheVariants.{OspfCostSum, IsisMetricSum, SystemIdTwice, StubMismatch, OutOfMemory}
use Rattle.net_model.proofs.Members.{Contains-first}
use Rattle.net_model.proofs.RefusalLaws.{CountsDests-unique, IsNetworkOf-unique, TwoHaveName-none}
use Rattle.network_survey.specs.AllRefusals.{IsRefusedEarlier, ListsRefusals, StandsFor}
use Rattle.refused_texts.specs.Texts.{network_text}
use Rattle.survey_report.specs.FaultTexts.{faults_text}
use Rattle.survey_report.specs.KindTexts.{NetworkRead}
use Rattle.survey_report.specs.SurveyFiles.{AreFaultsOfFiles, FileFaults, ReadsFileTexts, SurveyFile, is_faulty_file}
use Rattle.survey_report.specs.SurveyTexts.{IsConfigurationsSurvey, IsNetworkSurvey, OneSurveyLaw, SurveyText, last_kinds, odd_kinds}
use Rattle.survey_report.specs.SurveyTexts.{read_kinds, standing_out, uneven_kinds}
use Rattle.survey_report.specs.SurveyTexts.IsConfigurationsSurvey.{refused, network}
use Rattle.survey_report.specs.SurveyTexts.IsSurveyText.{faulty, read}
use Rattle.survey_report.proofs.FaultsOnce.{configs_once, faultless, faults_once}
use Rattle.survey_report.proofs.KindsOnce.{kinds_once}
use Rattle.survey_report.proofs.ListedOnce.{ListsAll-unique}

-- ---- a network ----

survey_once : (on : NetworkRead) (s t : SurveyText) → IsNetworkSurvey on s → IsNetworkSurvey on t → s ≡ t
survey_once on s t one other =
    let a : one.network ≡ other.network = kinds_once on read_kinds one.network other.network one.is_network other.is_network in
    let b : one.odd ≡ other.odd = kinds_once on odd_kinds one.odd other.odd one.is_odd other.is_odd in
    let c : one.uneven ≡ other.uneven = kinds_once on uneven_kinds one.uneven other.uneven one.is_uneven other.is_uneven in
    let d : one.last ≡ other.last = kinds_once on last_kinds one.last other.last one.is_last other.is_last in
    let text : s.text ≡ t.text = one.text_is ∙ (λ i. a i ++ b i ++ c i ++ d i) ∙ sym other.text_is in
    let out : s.stands_out ≡ t.stands_out =
    one.stands_out_is ∙ (λ i. nat_lt 0 (length (b i)) || nat_lt 0 (length (d i))) ∙ sym other.stands_out_is in
    λ i. record { text = text i; stands_out = out i }

-- ---- configurations ----

-- of configurations that make a network no refusal stands
network_stands : (net : Network) (refusal : NetRefusal) → (configs : List Configuration) → MakeNetwork configs net →
    HoldsOfNetwork configs (Stands refusal) → Stands refusal net
network_stands net refusal configs make holds =
    subst (Stands refusal) (IsNetworkOf-unique configs holds.net net holds.network make.network) holds.holds

none_stands : (configs : List Configuration) (net : Network) → MakeNetwork configs net → (refusal : NetRefusal) → StandsFor refusal configs → ⊥
none_stands configs net make (Limit Routers n) s = omega (arith, s.above, make.limits.routers)
none_stands configs net make (Limit Interfaces n) s = omega (arith, s.above, make.limits.interfaces)
none_stands configs net make (Limit Dests n) s =
    omega (arith, s.above.above, make.limits.few, CountsDests-unique configs s.dests make.limits.dests s.counted make.limits.counted)
none_stands configs net make (TwoNames name) s = TwoHaveName-none configs net name make.network s.double
none_stands configs net make OutOfMemory s = s
none_stands configs net make (AddressTwice one two address) s =
    let h = network_stands net (AddressTwice one two address) configs make s in make.consistent.addresses h.first h.second address h.pair.clash
none_stands configs net make (PrefixInTwoAreas one two dest) s =
    let h = network_stands net (PrefixInTwoAreas one two dest) configs make s in make.consistent.areas h.first h.second dest h.pair.clash
none_stands configs net make (BorderWithoutBackbone router) s =
    let h = network_stands net (BorderWithoutBackbone router) configs make s in make.consistent.borders h.router h.lowest.holds
none_stands configs net make (OspfCostSum sum) s =
    let h = network_stands net (OspfCostSum sum) configs make s in omega (arith, make.consistent.ospf_costs, h.above)
none_stands configs net make (IsisMetricSum sum) s =
    let h = network_stands net (IsisMetricSum sum) configs make s in omega (arith, make.consistent.isis_metrics, h.above)
none_stands configs net make (SystemIdTwice one two) s =
    let h = network_stands net (SystemIdTwice one two) configs make s in make.consistent.systems h.1.first h.1.second h.0 h.1.pair.clash
none_stands configs net make (StubMismatch one two area) s =
    let h = network_stands net (StubMismatch one two area) configs make s in make.consistent.stubs h.first h.second area h.pair.clash

not_both : (configs : List Configuration) (found : List NetRefusal) (net : Network) → ListsRefusals configs found → found ≢ [] →
    MakeNetwork configs net → ⊥
not_both configs [] net lists some make = some refl
not_both configs (r ∷ rs) net lists some make = none_stands configs net make r ((lists.exact r).0 (Contains-first r rs))

refusals_once : (configs : List Configuration) (one other : List NetRefusal) → ListsRefusals configs one → ListsRefusals configs other → one ≡ other
refusals_once configs =
    ListsAll-unique IsRefusedEarlier (λ r l. omega arith) (λ r s t l m. omega arith) (λ (r : NetRefusal). StandsFor r configs)

configurations_once : (files : List SurveyFile) (configs : List Configuration) (s t : SurveyText) → IsConfigurationsSurvey files configs s →
    IsConfigurationsSurvey files configs t → s ≡ t
configurations_once files configs s t (refused one lists some is) (refused other listed more was) =
    is ∙ ap (λ (found : List NetRefusal). standing_out (flat_map network_text found)) (refusals_once configs one other lists listed) ∙ sym was
configurations_once files configs s t (refused one lists some is) (network net make told) = absurd (not_both configs one net lists some make)
configurations_once files configs s t (network net make told) (refused one lists some is) = absurd (not_both configs one net lists some make)
configurations_once files configs s t (network net make told) (network other made tells) =
    survey_once (record { net = other; files = files }) s t
    (subst (λ (n : Network). IsNetworkSurvey (record { net = n; files = files }) s)
    (IsNetworkOf-unique configs net other make.network made.network) told)
    tells

-- ---- files ----

faulty_or_read : (files : List SurveyFile) (all : List FileFaults) (configs : List Configuration) → AreFaultsOfFiles files all →
    IsTrue (list_any is_faulty_file all) → ReadsFileTexts files configs → ⊥
faulty_or_read files all configs are some reads =
    false≢true
    (sym (faultless all configs are.each (subst (λ (fs : List SurveyFile). ReadsFileTexts fs configs) (sym are.files_are) reads)) ∙ some)

pub one_survey : OneSurveyLaw
one_survey files s t (faulty one are some is) (faulty other were more was) =
    is
    ∙ ap (λ (all : List FileFaults). standing_out (faults_text all)) (faults_once one other (are.files_are ∙ sym were.files_are) are.each were.each)
    ∙ sym was
one_survey files s t (faulty one are some is) (read configs reads told) = absurd (faulty_or_read files one configs are some reads)
one_survey files s t (read configs reads told) (faulty one are some is) = absurd (faulty_or_read files one configs are some reads)
one_survey files s t (read one reads told) (read other read_too tells) =
    configurations_once files other s t
    (subst (λ (configs : List Configuration). IsConfigurationsSurvey files configs s) (configs_once files one other reads read_too) told)
    tells
