-- The texts that a command reads come to one outcome: each step towards it goes one way.
use Rattle.std.proofs.Common.{◌≡◌, ℕ, List, [], ◌∷◌, drop, get_or, refl, sym, ap, subst, ◌∙◌, arith}
use Rattle.std.proofs.lemmas.Option.{same_Some}
use Rattle.net_model.specs.Configuration.{Configuration}
use Rattle.net_model.specs.Network.{Network, HasConfiguration}
use Rattle.net_model.specs.OffStarts.{IsLowestOffStart}
use Rattle.net_model.specs.declared.refusal.NetRefusal.{NetRefusal}
use Rattle.survey_report.proofs.SurveyOnce.{one_survey}
use Rattle.survey_report.specs.SurveyFiles.{SurveyFile, survey_files}
use Rattle.survey_report.specs.SurveyTexts.{IsSurveyText, SurveyText}
use Rattle.migrate_words.specs.declared.command.Command.{Command}
use Rattle.migrate_words.specs.declared.command.CommandKind.{CommandKind}
use Rattle.migrate_words.specs.declared.command.CommandKind.TheVariants.{Observe, Survey as SurveyTexts}
use Rattle.migration_report.specs.Outcomes.{HasOutcomeText}
use Rattle.migration_report.specs.declared.outcome.Outcome.{Outcome}
use Rattle.migration_report.specs.declared.outcome.Outcome.TheVariants.{Refused, Decided, Survey}
use Rattle.migration_report.specs.declared.refusal.Refusal.TheVariants.{Config, Network as NoNetwork, OffStart}
use Rattle.migrate_cli.specs.CommandFiles.{AsksNetworks, GivenTexts, NeedsStart, given_texts, groups_of}
use Rattle.migrate_cli.specs.Configurations.{GiveNetworks, RefusesFirst}
use Rattle.migrate_cli.specs.Decisions.{IsDecision, input_of}
use Rattle.migrate_cli.specs.ObserveDecision.{IsNightOutcome, config_texts_of, night_texts}
use Rattle.migrate_cli.specs.Outcomes.{IsOutcome}
use Rattle.migrate_cli.specs.Outcomes.IsOutcome.{faulty_configuration, no_network, off_start, decided, surveyed, observed}
use Rattle.migrate_cli.proofs.CommandLaws.{decision_tellable, one_decision}
use Rattle.migrate_cli.proofs.GroupLaws.{first_ascends, given_unrefused, none_refuses, one_first_refusal, same_networks}
use Rattle.migrate_cli.specs.Reading.{NamedText, named_texts}
use Rattle.migrate_cli.proofs.ObserveLaws.{night_has_text, one_night}
use Rattle.migrate_cli.proofs.TextLaws.{none_refused, one_refused}

-- what `survey` comes to on these files
pub record IsSurveyOutcome (files : List SurveyFile) (outcome : Outcome) : Type 0 where
  pub survey : SurveyText
  pub outcome_is : outcome ≡ Survey survey.stands_out survey.text
  pub is : IsSurveyText files survey

-- what `observe` comes to on these texts
pub record IsObservedOutcome (command : Command) (texts : GivenTexts) (outcome : Outcome) : Type 0 where
  pub order : NamedText
  pub before : NamedText
  pub own : named_texts command.own texts.own ≡ order ∷ before ∷ []
  pub is : IsNightOutcome (night_texts order (config_texts_of (before.file ∷ []) (before.text ∷ [])) (config_texts_of command.configs texts.configs)) outcome

-- the first of some networks
first_of : {net other : Network} {others more : List Network} → net ∷ others ≡ other ∷ more → net ≡ other
first_of {net = net} same = ap (λ (all : List Network). get_or all 0 net) same

module _ (command : Command) (texts : GivenTexts) where
  one_start : (net other : Network) (u v : ℕ) (c d : Configuration) → net ≡ other → IsLowestOffStart net u → HasConfiguration net u c →
      IsLowestOffStart other v → HasConfiguration other v d → c ≡ d
  one_start net other u v c d same lowest has least its =
      let low : IsLowestOffStart net v = subst (λ (n : Network). IsLowestOffStart n v) (sym same) least in
      let at : HasConfiguration net v d = subst (λ (n : Network). HasConfiguration n v d) (sym same) its in
      let router : u ≡ v = omega (arith, lowest.least v low.holds, low.least u lowest.holds) in
      same_Some c d (sym has ∙ subst (λ n. HasConfiguration net n d) (sym router) at)

  -- networks that the groups give are the same
  one_first : {net other : Network} {others more : List Network} → GiveNetworks (groups_of command.kind texts.configs) (net ∷ others) →
      GiveNetworks (groups_of command.kind texts.configs) (other ∷ more) → net ∷ others ≡ other ∷ more
  one_first gives give = same_networks (groups_of command.kind texts.configs) _ _ gives give

  -- `survey` comes to what is told of its texts, and to nothing else
  pub survey_alone : {outcome : Outcome} → command.kind ≡ SurveyTexts → IsOutcome command texts outcome →
      IsSurveyOutcome (survey_files command.configs texts.configs) outcome
  survey_alone kind (faulty_configuration _ _ _ asks _) = absurd (subst AsksNetworks kind asks)
  survey_alone kind (no_network _ refusal _ refuses told) =
      absurd (none_refuses {groups = []} [] tt told (subst (λ (k : CommandKind). RefusesFirst refusal (groups_of k texts.configs)) kind refuses))
  survey_alone kind (off_start _ _ _ _ _ needs _ _) = absurd (subst NeedsStart kind needs)
  survey_alone kind (decided net others decision _ _ is) =
      absurd (subst (λ (k : CommandKind). IsDecision k (input_of command texts net others) decision) kind is)
  survey_alone kind (surveyed survey _ is) = record { survey = survey; outcome_is = refl; is = is }
  survey_alone kind (observed _ _ _ other _ _) = let clash : Observe ≡ SurveyTexts = sym other ∙ kind in absurd (Prim.cc clash)

  -- and so does `observe`
  pub observe_alone : {outcome : Outcome} → command.kind ≡ Observe → IsOutcome command texts outcome → IsObservedOutcome command texts outcome
  observe_alone kind (faulty_configuration _ _ _ asks _) = absurd (subst AsksNetworks kind asks)
  observe_alone kind (no_network _ refusal _ refuses told) =
      absurd (none_refuses {groups = []} [] tt told (subst (λ (k : CommandKind). RefusesFirst refusal (groups_of k texts.configs)) kind refuses))
  observe_alone kind (off_start _ _ _ _ _ needs _ _) = absurd (subst NeedsStart kind needs)
  observe_alone kind (decided net others decision _ _ is) =
      absurd (subst (λ (k : CommandKind). IsDecision k (input_of command texts net others) decision) kind is)
  observe_alone kind (surveyed _ other _) = let clash : Observe ≡ SurveyTexts = sym kind ∙ other in absurd (Prim.cc clash)
  observe_alone kind (observed order before _ _ own is) = record { order = order; before = before; own = own; is = is }

  one_observed_outcome : {one other : Outcome} → IsObservedOutcome command texts one → IsObservedOutcome command texts other → one ≡ other
  one_observed_outcome {other = other} a b =
      let both : b.order ∷ b.before ∷ [] ≡ a.order ∷ a.before ∷ [] = sym b.own ∙ a.own in
      let order : b.order ≡ a.order = cc both in
      let before : b.before ≡ a.before = cc both in
      one_night (night_texts a.order (config_texts_of (a.before.file ∷ []) (a.before.text ∷ [])) (config_texts_of command.configs texts.configs)) a.is
      (subst (λ (file : NamedText). IsNightOutcome
      (night_texts a.order (config_texts_of (file.file ∷ []) (file.text ∷ [])) (config_texts_of command.configs texts.configs)) other) before
      (subst (λ (file : NamedText). IsNightOutcome
      (night_texts file (config_texts_of (b.before.file ∷ []) (b.before.text ∷ [])) (config_texts_of command.configs texts.configs)) other) order b.is))

  one_survey_outcome : {one other : Outcome} → IsSurveyOutcome (survey_files command.configs texts.configs) one →
      IsSurveyOutcome (survey_files command.configs texts.configs) other → one ≡ other
  one_survey_outcome a b =
      let same : a.survey ≡ b.survey = one_survey (survey_files command.configs texts.configs) a.survey b.survey a.is b.is in
      a.outcome_is ∙ ap (λ (s : SurveyText). Survey s.stands_out s.text) same ∙ sym b.outcome_is

  -- texts come to one outcome
  pub one_outcome : {one other : Outcome} → IsOutcome command texts one → IsOutcome command texts other → one ≡ other
  one_outcome (faulty_configuration _ _ _ _ one) (faulty_configuration _ _ _ _ other) =
      let same = one_refused one other in λ i. Refused (Config (same.0 i) (same.1 i) (same.2 i))
  one_outcome (faulty_configuration _ _ _ _ one) (no_network all _ read _ _) = absurd (none_refused one all read)
  one_outcome (faulty_configuration _ _ _ asks one) (off_start net others _ _ gives _ _ _) =
      absurd (given_unrefused command.kind texts.configs (net ∷ others) asks gives one)
  one_outcome (faulty_configuration _ _ _ asks one) (decided net others _ gives _ _) =
      absurd (given_unrefused command.kind texts.configs (net ∷ others) asks gives one)
  one_outcome (no_network all _ read _ _) (faulty_configuration _ _ _ _ other) = absurd (none_refused other all read)
  one_outcome (off_start net others _ _ gives _ _ _) (faulty_configuration _ _ _ asks other) =
      absurd (given_unrefused command.kind texts.configs (net ∷ others) asks gives other)
  one_outcome (decided net others _ gives _ _) (faulty_configuration _ _ _ asks other) =
      absurd (given_unrefused command.kind texts.configs (net ∷ others) asks gives other)
  one_outcome (no_network _ _ _ one told) (no_network _ _ _ other tell) =
      ap (λ (r : NetRefusal). Refused (NoNetwork r)) (one_first_refusal told tell one other)
  one_outcome (no_network _ _ _ refuses told) (off_start net others _ _ gives _ _ _) = absurd (none_refuses (net ∷ others) gives told refuses)
  one_outcome (no_network _ _ _ refuses told) (decided net others _ gives _ _) = absurd (none_refuses (net ∷ others) gives told refuses)
  one_outcome (off_start net others _ _ gives _ _ _) (no_network _ _ _ refuses told) = absurd (none_refuses (net ∷ others) gives told refuses)
  one_outcome (decided net others _ gives _ _) (no_network _ _ _ refuses told) = absurd (none_refuses (net ∷ others) gives told refuses)
  one_outcome (off_start net _ u c gives _ lowest has) (off_start other _ v d give _ least its) =
      ap (λ (config : Configuration). Refused (OffStart config.name))
      (one_start net other u v c d (first_of (one_first gives give)) lowest has least its)
  one_outcome (off_start net _ u _ gives needs lowest _) (decided other _ _ give start _) =
      absurd (start needs u (subst (λ (n : Network). IsLowestOffStart n u) (first_of (one_first gives give)) lowest).holds)
  one_outcome (decided other _ _ give start _) (off_start net _ u _ gives needs lowest _) =
      absurd (start needs u (subst (λ (n : Network). IsLowestOffStart n u) (first_of (one_first gives give)) lowest).holds)
  one_outcome (decided net others one gives _ is) (decided other more again give _ its) =
      let same : net ∷ others ≡ other ∷ more = one_first gives give in
      let back = sym same in
      let decision : one ≡ again = one_decision command.kind (input_of command texts net others)
      (first_ascends (groups_of command.kind texts.configs) net others gives) is
      (subst (λ (all : List Network). IsDecision command.kind (input_of command texts (get_or all 0 net) (drop 1 all)) again) back its) in
      λ i. Decided (first_of same i) (decision i)
  one_outcome (surveyed survey kind is) other = one_survey_outcome (survey_alone kind (surveyed survey kind is)) (survey_alone kind other)
  one_outcome one (surveyed survey kind is) = one_survey_outcome (survey_alone kind one) (survey_alone kind (surveyed survey kind is))
  one_outcome (observed order before outcome kind own is) other =
      one_observed_outcome (record { order = order; before = before; own = own; is = is }) (observe_alone kind other)
  one_outcome one (observed order before outcome kind own is) =
      one_observed_outcome (observe_alone kind one) (record { order = order; before = before; own = own; is = is })

  -- which has a text
  pub outcome_has_text : {outcome : Outcome} → IsOutcome command texts outcome → HasOutcomeText outcome
  outcome_has_text (faulty_configuration _ _ _ _ _) = tt
  outcome_has_text (surveyed _ _ _) = tt
  outcome_has_text (observed _ _ _ _ _ is) = night_has_text is
  outcome_has_text (no_network _ _ _ _ told) = told
  outcome_has_text (off_start _ _ _ _ _ _ _ _) = tt
  outcome_has_text (decided net others decision _ _ is) = decision_tellable command.kind (input_of command texts net others) decision is

-- the texts of a command come to one outcome
pub one_outcome_law : (command : Command) (own configs : List (List ℕ)) (one other : Outcome) → IsOutcome command (given_texts own configs) one →
    IsOutcome command (given_texts own configs) other → one ≡ other
one_outcome_law command own configs one other is its = one_outcome command (given_texts own configs) is its
