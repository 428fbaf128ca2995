-- What a survey of files tells, which is one text, and whether something stands out in them.
use Rattle.std.specs.Prelude.{◌≡◌, ◌≢◌, ℕ, Bool, true, ◌||◌, List, [], ◌∷◌, ◌++◌, IsTrue, flat_map, length, nat_lt}
use Rattle.std.specs.List.{list_any}
use Rattle.net_model.specs.Configuration.{Configuration}
use Rattle.net_model.specs.Network.{Network}
use Rattle.net_model.specs.Refusals.{MakeNetwork}
use Rattle.net_model.specs.declared.refusal.NetRefusal.{NetRefusal}
use Rattle.network_survey.specs.AllRefusals.{ListsRefusals}
use Rattle.refused_texts.specs.Texts.{network_text}
use Rattle.survey_report.specs.FaultTexts.{faults_text}
use Rattle.survey_report.specs.KindTexts.{AreKindTexts, NetworkRead}
use Rattle.survey_report.specs.SurveyFiles.{AreFaultsOfFiles, FileFaults, ReadsFileTexts, SurveyFile, is_faulty_file}
use Rattle.survey_report.specs.declared.kinds.LineKind.{LineKind}
use Rattle.survey_report.specs.declared.kinds.LineKind.TheVariants.{Counts, Routers, Silent, Half, Masks, OneSide, Apart, Uneven}
use Rattle.survey_report.specs.declared.kinds.LineKind.TheVariants.{Start, Odd, Flat, Acts}
use Rattle.survey_report.specs.declared.kinds.Protocol.TheVariants.{Ospf, Level1, Level2}

-- what is told, and whether something stands out
pub record SurveyText : Type 0 where
  pub text : List ℕ
  pub stands_out : Bool

-- a text in which something stands out
abbrev pub standing_out : List ℕ → SurveyText
standing_out text = record { text = text; stands_out = true }

-- the kinds in the order in which they are told: what was read; what is odd between routers; links that cost differently at their
-- ends, which don't stand out; and what is odd about routers by themselves and about texts
abbrev pub read_kinds : List LineKind
read_kinds = Counts ∷ Routers ∷ []

abbrev pub odd_kinds : List LineKind
odd_kinds = Silent ∷ Half ∷ Masks ∷ OneSide Ospf ∷ OneSide Level1 ∷ OneSide Level2 ∷ Apart ∷ []

abbrev pub uneven_kinds : List LineKind
uneven_kinds = Uneven Ospf ∷ Uneven Level1 ∷ Uneven Level2 ∷ []

abbrev pub last_kinds : List LineKind
last_kinds = Start ∷ Odd ∷ Flat ∷ Acts ∷ []

-- what is told of a network that was read: something stands out where a line is told of a kind that does
pub record IsNetworkSurvey (read : NetworkRead) (survey : SurveyText) : Type 0 where
  pub network : List ℕ
  pub is_network : AreKindTexts read read_kinds network
  pub odd : List ℕ
  pub is_odd : AreKindTexts read odd_kinds odd
  pub uneven : List ℕ
  pub is_uneven : AreKindTexts read uneven_kinds uneven
  pub last : List ℕ
  pub is_last : AreKindTexts read last_kinds last
  pub text_is : survey.text ≡ network ++ odd ++ uneven ++ last
  pub stands_out_is : survey.stands_out ≡ (nat_lt 0 (length odd) || nat_lt 0 (length last))

-- what is told of configurations: all that refuses their network, or their network
pub data IsConfigurationsSurvey (files : List SurveyFile) (configs : List Configuration) (survey : SurveyText) : Type 0 where
  refused : (found : List NetRefusal) → ListsRefusals configs found → found ≢ [] →
      survey ≡ standing_out (flat_map network_text found) → IsConfigurationsSurvey files configs survey
  network : (net : Network) → MakeNetwork configs net → IsNetworkSurvey (record { net = net; files = files }) survey →
      IsConfigurationsSurvey files configs survey

-- what is told of files: all faulty lines, where there is one; else what is told of the configurations that they are read as
pub data IsSurveyText (files : List SurveyFile) (survey : SurveyText) : Type 0 where
  faulty : (all : List FileFaults) → AreFaultsOfFiles files all → IsTrue (list_any is_faulty_file all) →
      survey ≡ standing_out (faults_text all) → IsSurveyText files survey
  read : (configs : List Configuration) → ReadsFileTexts files configs → IsConfigurationsSurvey files configs survey →
      IsSurveyText files survey

-- files have one survey
abbrev pub OneSurveyLaw : Type 0
OneSurveyLaw =
    (files : List SurveyFile) (one other : SurveyText) → IsSurveyText files one → IsSurveyText files other → one ≡ other
