-- What a call of `prepare` wrote is read back.
use Rattle.std.proofs.lemmas.Grind.{common_steps}
use Rattle.std.proofs.Common.{◌≡◌, ◌<◌, ◌∷◌, [], Contains, ℕ, List, arith, length, map, subst, take}
use Rattle.std.proofs.lemmas.List.Elements.{All-contains_itself}
use Rattle.std.proofs.lemmas.List.Sorted.{All-permutation, IsPermutation-sym}
use Rattle.store_edge.specs.Sink.{AddsBytes}
use Rattle.net_model.specs.Network.{Network}
use Rattle.ios_reader.specs.Texts.{ReadsText}
use Rattle.design_file.specs.Settling.{FitsNetwork}
use Rattle.design_file.specs.declared.settled.SettledRouter.{SettledRouter}
use Rattle.isis_writer.specs.PreparedConfigurations.{prepared as prepared_configuration, prepared_texts}
use Rattle.isis_writer.proofs.PreparedReads.{prepared_texts_read}
use Rattle.migrate_words.proofs.Ranges.{ranges}
use Rattle.migrate_words.specs.Asked.{Asks}
use Rattle.migrate_words.specs.declared.command.Command.{Command}
use Rattle.migrate_words.specs.declared.command.CommandKind.TheVariants.{Prepare}
use Rattle.migration_report.specs.Outcomes.{decision_status, decision_text, status_of, outcome_text}
use Rattle.migration_report.specs.declared.decision.Decision.{Decision}
use Rattle.migration_report.specs.declared.outcome.Outcome.{Outcome}
use Rattle.migration_report.specs.declared.status.Status.TheVariants.{Done}
use Rattle.migrate_cli.specs.Answers.{IsAnswer}
use Rattle.migrate_cli.specs.Calls.{Call, Course}
use Rattle.migrate_cli.specs.CommandFiles.{command_of, config_texts, files_of}
use Rattle.migrate_cli.specs.Configurations.{GiveNetwork}
use Rattle.migrate_cli.specs.PrepareDecision.{IsPrepareDecision, configured, with_settled_lines}
use Rattle.migrate_cli.specs.PreparePromise.{HasPrepared}
use Rattle.migrate_cli.specs.Reading.{AreWithin, NamedText, named_texts}
use Rattle.migrate_cli.proofs.DecidedLaws.{HasDecided, answer_decided, done_no_refusal}
use Rattle.migrate_cli.proofs.FileFacts.{files_length, short_length}
use Rattle.migrate_cli.proofs.SettlingLaws.{done_is_settled}

-- ---- `prepare` has configuration files ----

config_count : (file : List ℕ) (configs texts : List (List ℕ)) → AreWithin (files_of (command_of Prepare (file ∷ []) configs 0)) texts →
    length (config_texts (command_of Prepare (file ∷ []) configs 0) texts) ≡ length configs
config_count file configs texts within = grind (arith, common_steps, files_length, short_length)

-- ---- prepared texts are read as the configurations of all of them ----

network_read : (texts : List (List ℕ)) (net : Network) (settled : List SettledRouter) (gives : GiveNetwork texts net) →
    FitsNetwork net settled → 0 < length texts →
    ReadsText (prepared_texts net settled texts) (map (prepared_configuration net settled) gives.configs)
network_read [] net settled gives fits some = absurd (omega arith)
network_read (text ∷ texts) net settled gives fits some = prepared_texts_read text texts net settled gives.configs (record {
  names = gives.make.network.ascending;
  fits = fits;
  among =
      All-permutation (Contains net) net gives.configs (IsPermutation-sym gives.configs net gives.make.network.same)
      (All-contains_itself net);
  read = gives.read;
})

-- ---- what was written is read back ----

-- the one own text is that of the file that is decided on
pub own_is : (file : List ℕ) (texts : List (List ℕ)) (design : NamedText) → named_texts (file ∷ []) (take 1 texts) ≡ design ∷ [] →
    take 1 texts ≡ design.text ∷ []
own_is file texts design is = grind (arith, common_steps)

module _ (call : Call) (file : List ℕ) (configs : List (List ℕ)) (outside : Course) (asks : Asks call.words (command_of Prepare (file ∷ []) configs 0)) where
  abbrev command : Command
  command = command_of Prepare (file ∷ []) configs 0

  some_configs : (texts : List (List ℕ)) → AreWithin (files_of command) texts → 0 < length (config_texts command texts)
  some_configs texts within =
      let files : 0 < length configs = (ranges call.words command asks).configs in
      let count = config_count file configs texts within in
      omega (arith, files, count)

  by_decision : {outcome : Outcome} (it : HasDecided call command outcome) (d : Decision) →
      IsPrepareDecision it.is.0 (configured (config_texts command it.texts) it.net) d →
      AddsBytes outside.before.written outside.after.written (decision_text it.net d) → decision_status d ≡ Done → HasPrepared call file configs outside
  by_decision it d is writes done =
      let routers = configured (config_texts command it.texts) it.net in
      let found = done_is_settled it.is.0 it.net (with_settled_lines routers) is done in
      record {
        texts = it.texts;
        read = it.read;
        within = it.within;
        net = it.net;
        gives = it.gives.0;
        text = it.is.0.text;
        text_is = own_is file it.texts it.is.0 it.is.1;
        design = found.2.said;
        says = found.2.says;
        settled = found.0;
        settles = found.2.settles;
        written = prepared_texts it.net found.0 (config_texts command it.texts);
        adds = subst (λ (some : Decision). AddsBytes outside.before.written outside.after.written (decision_text it.net some)) found.1 writes;
        reads_back = network_read (config_texts command it.texts) it.net found.0 it.gives.0 found.2.fits (some_configs it.texts it.within);
      }

  pub reads_back : {asked : List (List ℕ)} {outcome : Outcome} → IsAnswer call asked outcome →
      AddsBytes outside.before.written outside.after.written (outcome_text outcome) → status_of outcome ≡ Done → HasPrepared call file configs outside
  reads_back is adds done =
      let it = answer_decided (λ status. status ≡ Done) done_no_refusal call command tt asks is done in
      by_decision it it.decision it.is.2
      (subst (λ (o : Outcome). AddsBytes outside.before.written outside.after.written (outcome_text o)) it.outcome_is adds)
      (subst (λ (o : Outcome). status_of o ≡ Done) it.outcome_is done)
