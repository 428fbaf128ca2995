-- What a call of `observe` promises.
use Rattle.std.proofs.Common.{arith}
use Rattle.std.proofs.lemmas.Grind.{common_steps}
use Rattle.std.proofs.Common.{◌≡◌, ◌≢◌, ◌∙◌, [], ◌∷◌, ℕ, List, All, length, take, ap, refl, subst, sym}
use Rattle.net_model.specs.Network.{Network}
use Rattle.net_model.specs.Refusals.{IsNetwork, NamesAscend}
use Rattle.net_model.specs.declared.refusal.NetRefusal.{NetRefusal}
use Rattle.order_core.specs.Rankings.{IsRanking}
use Rattle.step_scripts.specs.WaveFiles.{NamesWaves}
use Rattle.step_scripts.specs.declared.version.Version.{Version}
use Rattle.step_scripts.proofs.WaveFileLaws.{no_fault, one_wave_list}
use Rattle.observed_night.specs.ObservedLaws.{JournalReaches}
use Rattle.observed_night.specs.ObservedTexts.{IsObserved, state_journal}
use Rattle.observed_night.specs.ObservedTexts.IsObserved.{differs, astray, journal}
use Rattle.observed_night.specs.declared.night.Observed.{Observed}
use Rattle.observed_night.specs.declared.night.Observed.TheVariants.{Differs, Astray, Journal}
use Rattle.observed_night.proofs.ObservedFacts.{journal_finds}
use Rattle.observed_night.proofs.SightFacts.{night_differs_not}
use Rattle.observed_night.proofs.StateFacts.{astray_shows_none}
use Rattle.store_edge.specs.Sink.{AddsBytes}
use Rattle.migrate_words.proofs.OneCommand.{one_command}
use Rattle.migrate_words.specs.Asked.{Asks}
use Rattle.migrate_words.specs.declared.command.Command.{Command}
use Rattle.migration_report.specs.Outcomes.{decision_status, decision_text, network_status, outcome_text, status_of}
use Rattle.migration_report.specs.declared.decision.Decision.{Decision}
use Rattle.migration_report.specs.declared.decision.Decision.TheVariants.{Reached}
use Rattle.migration_report.specs.declared.outcome.Outcome.{Outcome}
use Rattle.migration_report.specs.declared.status.Status.{Status}
use Rattle.migration_report.specs.declared.status.Status.TheVariants.{Done, ReadFault}
use Rattle.migrate_cli.specs.Answers.{IsAnswer}
use Rattle.migrate_cli.specs.Answers.IsAnswer.{refused_words, many_files, read_fault, long_file, long_files, judged}
use Rattle.migrate_cli.specs.Calls.{Call, Course}
use Rattle.migrate_cli.specs.CommandFiles.{GivenTexts, config_texts, files_of, given_texts, own_texts}
use Rattle.migrate_cli.specs.Completeness.{Decides, Writes}
use Rattle.migrate_cli.specs.Completeness.Decides.{yes, no}
use Rattle.migrate_cli.specs.Completeness.Writes.{written}
use Rattle.migrate_cli.specs.Configurations.{GiveNetwork, IsAtStart}
use Rattle.migrate_cli.specs.ObserveDecision.{ConfigTexts, IsNightOutcome, IsObserveDecision, NightTexts, RefusesTexts, config_texts_of}
use Rattle.migrate_cli.specs.ObserveDecision.{night_texts, told_decision}
use Rattle.migrate_cli.specs.ObserveDecision.IsNightOutcome.{refused_before, off_before, refused_now, night_decided}
use Rattle.migrate_cli.specs.ObserveDecision.IsObserveDecision.{faulty_waves, of_waves}
use Rattle.migrate_cli.specs.ObservePromise.{AcceptsObserve, HasObserved, IsAfterChanges, observe_of}
use Rattle.migrate_cli.specs.Outcomes.{IsOutcome}
use Rattle.migrate_cli.specs.Reading.{AreRead, AreWithin, NamedText, named_text, named_texts}
use Rattle.migrate_cli.specs.ReplayDecision.IsJournalDecision.{reached}
use Rattle.migrate_cli.specs.ReplayDecision.IsReplayDecision.{of_waves as replay_of}
use Rattle.migrate_cli.proofs.CallLaws.{OfFiles, OfWords, few_or_many, question, refused_or_asks, steps_of, stop_or_all}
use Rattle.migrate_cli.proofs.CallLaws.OfFiles.{above, stopped, all_read}
use Rattle.migrate_cli.proofs.CallLaws.OfWords.{refused, asks}
use Rattle.migrate_cli.proofs.GroupLaws.{one_network}
use Rattle.migrate_cli.proofs.NightPhases.{after_is_night, after_is_shown}
use Rattle.migrate_cli.proofs.ObserveLaws.{given_not_refused, off_or_at}
use Rattle.migrate_cli.proofs.OutcomeLaws.{IsObservedOutcome, observe_alone}
use Rattle.migrate_cli.proofs.StopLaws.{IsToldOf, one_list, told_files, told_with}

-- ---- the two own files ----

two_own_texts : (file before : List ℕ) (texts : List (List ℕ)) (order old : NamedText) →
    named_texts (file ∷ before ∷ []) (take 2 texts) ≡ order ∷ old ∷ [] → take 2 texts ≡ order.text ∷ old.text ∷ []
two_own_texts file before texts order old is = grind (arith, common_steps)

-- ---- a call that ended with yes has written a journal ----

network_not_done : (refusal : NetRefusal) → network_status refusal ≢ Done
network_not_done refusal e = grind (arith, common_steps)

refusal_not_done : {files : ConfigTexts} {outcome : Outcome} → RefusesTexts files outcome → status_of outcome ≢ Done
refusal_not_done it_0 e = grind (arith, common_steps, network_not_done)

journal_if_done : (observed : Observed) → decision_status (told_decision observed) ≡ Done → (text : List ℕ) × (observed ≡ Journal text)
journal_if_done observed e = grind (arith, common_steps)

module _ (call : Call) (file before : List ℕ) (configs : List (List ℕ)) (outside : Course)
    (ask : Asks call.words (observe_of file before configs)) where
  abbrev asked_for : Command
  asked_for = observe_of file before configs

  module _ (texts : List (List ℕ)) (read : AreRead call.content (files_of (observe_of file before configs)) texts)
      (within : AreWithin (files_of (observe_of file before configs)) texts) (order old : NamedText)
      (own : named_texts (file ∷ before ∷ []) (own_texts (observe_of file before configs) texts) ≡ order ∷ old ∷ []) where
    module _ (net now : Network) (gives : GiveNetwork (old.text ∷ []) net) (start : IsAtStart net)
        (gave : GiveNetwork (config_texts (observe_of file before configs) texts) now) where
      of_journal : (version : Version) (ranks : List ℕ) {observed : Observed} (text : List ℕ) → NamesWaves net order.text version ranks →
          IsNetwork net → IsRanking (length net) ranks → IsObserved net now ranks observed → observed ≡ Journal text →
          AddsBytes outside.before.written outside.after.written text → HasObserved call file before configs outside
      of_journal version ranks text names network ranking (differs _ _ _) e adds = absurd (Prim.cc e)
      of_journal version ranks text names network ranking (astray _ _ _ _ _) e adds = absurd (Prim.cc e)
      of_journal version ranks text names network ranking (journal state night none told) e adds =
          let is : state_journal net ranks state ≡ text = cc e in
          let found = journal_finds net now ranks state network ranking none told in
          let reaches : JournalReaches net ranks text state = subst (λ (written : List ℕ). JournalReaches net ranks written state) is found.reached in
          record {
            texts = texts;
            read = read;
            within = within;
            order = order.text;
            old = old.text;
            own_are = two_own_texts file before texts order old own;
            net = net;
            gives = gives;
            start = start;
            now = now;
            gives_now = gave;
            version = version;
            ranks = ranks;
            names = names;
            night = night;
            state = state;
            shown = found.shown;
            journal = text;
            adds = adds;
            reaches = reaches;
            replays = record {
              made = reaches.changes;
              done = reaches.done;
              decides = λ name nexts next.
                  replay_of version ranks (Reached reaches.changes nexts) names (reached reaches.changes reaches.done nexts reaches.place next);
            };
          }

      by_decision : {d : Decision} → IsObserveDecision net now order d → decision_status d ≡ Done →
          AddsBytes outside.before.written outside.after.written (decision_text net d) → HasObserved call file before configs outside
      by_decision (faulty_waves _ _ _) e adds = absurd (Prim.cc e)
      by_decision (of_waves version ranks observed d names network ranking is told) e adds =
          let its = journal_if_done observed (sym (ap decision_status told) ∙ e) in
          of_journal version ranks its.0 names network ranking is its.1
          (subst (λ (some : Decision). AddsBytes outside.before.written outside.after.written (decision_text net some))
          (told ∙ ap told_decision its.1) adds)

    by_night : {outcome : Outcome} → IsNightOutcome (night_texts order (config_texts_of (old.file ∷ []) (old.text ∷ []))
        (config_texts_of configs (config_texts (observe_of file before configs) texts))) outcome → status_of outcome ≡ Done →
        AddsBytes outside.before.written outside.after.written (outcome_text outcome) → HasObserved call file before configs outside
    by_night (refused_before _ is) e adds = absurd (refusal_not_done is e)
    by_night (off_before _ _ _ _ _ _) e adds = absurd (Prim.cc e)
    by_night (refused_now _ _ _ _ is) e adds = absurd (refusal_not_done is e)
    by_night (night_decided net now d gives start gave is) e adds = by_decision net now gives start gave is e adds

  pub has_observed : {asked : List (List ℕ)} {outcome : Outcome} → IsAnswer call asked outcome →
      AddsBytes outside.before.written outside.after.written (outcome_text outcome) → status_of outcome ≡ Done →
      HasObserved call file before configs outside
  has_observed (refused_words _ _) adds e = absurd (Prim.cc e)
  has_observed (many_files _ _ _) adds e = absurd (Prim.cc e)
  has_observed (read_fault _ _ _ _ _ _) adds e = absurd (Prim.cc e)
  has_observed (long_file _ _ _ _ _ _ _) adds e = absurd (Prim.cc e)
  has_observed (long_files _ _ _ _ _ _ _ _) adds e = absurd (Prim.cc e)
  has_observed (judged other texts outcome few read within is) adds e =
      let command = observe_of file before configs in
      let same : other ≡ command = one_command call.words other command few.asked ask in
      let judges : IsOutcome command (given_texts (own_texts command texts) (config_texts command texts)) outcome =
      subst (λ (r : Command). IsOutcome r (given_texts (own_texts r texts) (config_texts r texts)) outcome) same is in
      let of = observe_alone command (given_texts (own_texts command texts) (config_texts command texts)) refl judges in
      by_night texts (subst (λ (r : Command). AreRead call.content (files_of r) texts) same read)
      (subst (λ (r : Command). AreWithin (files_of r) texts) same within) of.order of.before of.own of.is e adds

-- ---- where nothing is refused it decides ----

told_decides : (observed : Observed) → Decides (decision_status (told_decision observed))
told_decides (Differs text) = no
told_decides (Astray text) = no
told_decides (Journal text) = yes

-- after the first changes of some run a journal is written
after_writes : (net now : Network) (ranks : List ℕ) {observed : Observed} → NamesAscend net → IsAtStart net → IsAfterChanges net now ranks →
    IsObserved net now ranks observed → Writes (decision_status (told_decision observed))
after_writes net now ranks up start after (differs name part first) =
    absurd (night_differs_not net now name up (after_is_night net now ranks after) first.differs)
after_writes net now ranks up start after (astray u name night lowest named) =
    absurd (astray_shows_none net now ranks after.state u lowest.holds (after_is_shown net now ranks after start))
after_writes net now ranks up start after (journal state night none told) = written

module _ (call : Call) (it : AcceptsObserve call) where
  abbrev command : Command
  command = observe_of it.file it.before it.configs

  abbrev given : GivenTexts
  given = given_texts (own_texts command it.texts) (config_texts command it.texts)

  files_observed : {asked : List (List ℕ)} {outcome : Outcome} → OfFiles (question call.content command) asked outcome →
      IsObservedOutcome command given outcome
  files_observed (above many) = absurd (few_or_many call.content command many it.asked.few)
  files_observed (stopped before file read text _ _ stop _) =
      let tell = told_files call.content (files_of command) it.told in
      absurd (stop_or_all call.content command before file read text it.texts
      (told_with call.content before file stop.after (subst (All (IsToldOf call.content)) stop.files_are tell)) stop it.read it.within)
  files_observed {outcome = outcome} (all_read some _ read _ is) =
      let same = one_list call.content (files_of command) some it.texts (told_files call.content (files_of command) it.told) read it.read in
      observe_alone command given refl
      (subst (λ list. IsOutcome command (given_texts (own_texts command list) (config_texts command list)) outcome) same is)

  words_observed : {asked : List (List ℕ)} {outcome : Outcome} → OfWords call asked outcome → IsObservedOutcome command given outcome
  words_observed (refused detail are) = absurd (refused_or_asks call.words detail command are it.asked.asked)
  words_observed {asked} {outcome} (asks some ask files) =
      let same = one_command call.words some command ask it.asked.asked in
      files_observed (subst (λ other. OfFiles (question call.content other) asked outcome) same files)

  abbrev night_of_it : NightTexts
  night_of_it = night_texts (named_text it.file it.order) (config_texts_of (it.before ∷ []) (it.old ∷ []))
      (config_texts_of it.configs (config_texts command it.texts))

  in_its_terms : {outcome : Outcome} → IsObservedOutcome command given outcome → IsNightOutcome night_of_it outcome
  in_its_terms {outcome} of =
      let both : of.order ∷ of.before ∷ [] ≡ named_text it.file it.order ∷ named_text it.before it.old ∷ [] =
      sym of.own ∙ ap (named_texts (it.file ∷ it.before ∷ [])) it.own_are in
      let order : of.order ≡ named_text it.file it.order = cc both in
      let old : of.before ≡ named_text it.before it.old = cc both in
      let now : ConfigTexts = config_texts_of it.configs (config_texts command it.texts) in
      subst (λ (one : NamedText). IsNightOutcome (night_texts one (config_texts_of (it.before ∷ []) (it.old ∷ [])) now) outcome) order
      (subst (λ (one : NamedText). IsNightOutcome (night_texts of.order (config_texts_of (one.file ∷ []) (one.text ∷ [])) now) outcome) old of.is)

  module _ (D : Status → Type 0)
      (holds : (observed : Observed) → IsObserved it.net it.now it.ranks observed → D (decision_status (told_decision observed))) where
    by_order : {d : Decision} → IsObserveDecision it.net it.now (named_text it.file it.order) d → D (decision_status d)
    by_order (faulty_waves n k least) =
        absurd (no_fault it.net it.order it.version it.ranks n k it.gives.make.network.ascending it.names least.faulty)
    by_order (of_waves version ranks observed d names network ranking is told) =
        let same : ranks ≡ it.ranks =
        (one_wave_list it.net it.order version it.version ranks it.ranks it.gives.make.network.ascending names it.names).1 in
        subst (λ (some : Decision). D (decision_status some)) (sym told)
        (holds observed (subst (λ (r : List ℕ). IsObserved it.net it.now r observed) same is))

    by_outcome : {outcome : Outcome} → IsNightOutcome night_of_it outcome → D (status_of outcome)
    by_outcome (refused_before _ is) = absurd (given_not_refused it.net it.gives is)
    by_outcome (off_before net u _ gives lowest _) = absurd (off_or_at night_of_it net it.net u gives it.gives lowest it.start)
    by_outcome (refused_now _ _ _ _ is) = absurd (given_not_refused it.now it.gives_now is)
    by_outcome (night_decided net now d gives start gave is) =
        let same : net ≡ it.net = one_network (it.old ∷ []) net it.net gives it.gives in
        let later : now ≡ it.now = one_network (config_texts command it.texts) now it.now gave it.gives_now in
        by_order (subst (λ (n : Network). IsObserveDecision n it.now (named_text it.file it.order) d) same
        (subst (λ (n : Network). IsObserveDecision net n (named_text it.file it.order) d) later is))

    ends_observed : (asked : List (List ℕ)) (outcome : Outcome) → status_of outcome ≢ ReadFault → IsAnswer call asked outcome → D (status_of outcome)
    ends_observed asked outcome no_fault is = by_outcome (in_its_terms (words_observed (steps_of no_fault is)))

  pub observe_decides : (asked : List (List ℕ)) (outcome : Outcome) → status_of outcome ≢ ReadFault → IsAnswer call asked outcome →
      Decides (status_of outcome)
  observe_decides = ends_observed Decides (λ observed is. told_decides observed)

  pub observe_finds : IsAfterChanges it.net it.now it.ranks → (asked : List (List ℕ)) (outcome : Outcome) → status_of outcome ≢ ReadFault →
      IsAnswer call asked outcome → Writes (status_of outcome)
  observe_finds after = ends_observed Writes (λ observed is.
      after_writes it.net it.now it.ranks it.gives.make.network.ascending it.start after is)
