-- What a call of `split` promises.
use Rattle.std.proofs.Common.{◌≡◌, ◌≢◌, ◌<◌, ◌≤◌, [], ℕ, List, arith, subst}
use Rattle.igp_theory.specs.Migrations.{Migration, ospf_to_isis}
use Rattle.store_edge.specs.Sink.{AddsBytes}
use Rattle.net_model.specs.RouterNames.{names_of}
use Rattle.step_scripts.specs.WaveFiles.{NamesWaves}
use Rattle.step_scripts.specs.WavesTexts.{wave_list_text, waves_in}
use Rattle.migrate_words.proofs.Ranges.{ranges}
use Rattle.migrate_words.specs.Asked.{Asks}
use Rattle.migration_report.specs.Outcomes.{decision_status, decision_text, status_of, outcome_text}
use Rattle.migration_report.specs.declared.decision.Decision.{Decision}
use Rattle.migration_report.specs.declared.outcome.Outcome.{Outcome}
use Rattle.migration_report.specs.declared.status.Status.TheVariants.{Done, ReadFault}
use Rattle.migrate_cli.specs.Answers.{IsAnswer}
use Rattle.migrate_cli.specs.Calls.{Call, Course}
use Rattle.migrate_cli.specs.CheckDecision.{IsCheckOver}
use Rattle.migrate_cli.specs.CheckDecision.IsCheckOver.{faulty_order, of_order, of_waves}
use Rattle.migrate_cli.specs.CheckDecision.IsOrderDecision.{safe, unsafe as unsafe_order}
use Rattle.migrate_cli.specs.CheckDecision.IsWavesDecision.{safe_waves, unsafe_wave}
use Rattle.migrate_cli.specs.Reading.{NamedText}
use Rattle.migrate_cli.specs.SplitDecision.{IsSplitDecision, IsYes}
use Rattle.migrate_cli.specs.SplitDecision.IsSplitDecision.{unsafe, cut}
use Rattle.migrate_cli.specs.SplitPromise.{AcceptsSplit, DecidesSplit, HasSplit, split_of}
use Rattle.migrate_cli.proofs.CompletenessLaws.{ends_decided, said_of}
use Rattle.migrate_cli.proofs.DecidedLaws.{HasDecided, answer_decided, done_no_refusal}
use Rattle.migrate_cli.proofs.PreparePromiseLaws.{own_is}
use Rattle.migrate_cli.proofs.SplitLaws.{safely_split, split_decides}

-- what is no yes isn't done
not_done : {order : NamedText} {move : Migration} {d : Decision} → IsCheckOver move order d → ¬ IsYes d → decision_status d ≢ Done
not_done (faulty_order _ _ _) not e = Prim.cc e
not_done (of_order _ _ _ (safe _)) not e = not tt
not_done (of_order _ _ _ (unsafe_order _ _ _ _)) not e = Prim.cc e
not_done (of_waves _ _ _ (safe_waves _)) not e = not tt
not_done (of_waves _ _ _ (unsafe_wave _ _ _ _)) not e = Prim.cc e

module _ (call : Call) (most : ℕ) (file : List ℕ) (configs : List (List ℕ)) (outside : Course) (asks : Asks call.words (split_of most file configs)) where
  some : 0 < most
  some = let least : 1 ≤ most = (ranges call.words (split_of most file configs) asks).number.0 in omega (arith, least)

  by_decision : {outcome : Outcome} (it : HasDecided call (split_of most file configs) outcome) (d : Decision) → IsSplitDecision it.is.0 most it.net d →
      AddsBytes outside.before.written outside.after.written (decision_text it.net d) → decision_status d ≡ Done →
      HasSplit call most file configs outside
  by_decision it d (unsafe _ is not) writes done = absurd (not_done is not done)
  by_decision it d (cut version ranks split names seamless is) writes done = record {
    texts = it.texts;
    read = it.read;
    within = it.within;
    net = it.net;
    gives = it.gives.0;
    start = it.start tt;
    text = it.is.0.text;
    text_is = own_is file it.texts it.is.0 it.is.1;
    version = version;
    ranks = ranks;
    names = names;
    seamless = seamless;
    written = wave_list_text (names_of it.net) (waves_in split);
    adds = writes;
    is = safely_split it.net most ranks split some seamless is;
  }

  pub has_split : {asked : List (List ℕ)} {outcome : Outcome} → IsAnswer call asked outcome →
      AddsBytes outside.before.written outside.after.written (outcome_text outcome) → status_of outcome ≡ Done →
      HasSplit call most file configs outside
  has_split is adds done =
      let it = answer_decided (λ status. status ≡ Done) done_no_refusal call (split_of most file configs) tt asks is done in
      by_decision it it.decision it.is.2
      (subst (λ (o : Outcome). AddsBytes outside.before.written outside.after.written (outcome_text o)) it.outcome_is adds)
      (subst (λ (o : Outcome). status_of o ≡ Done) it.outcome_is done)

pub split_is_decided : (call : Call) → (it : AcceptsSplit call) → (asked : List (List ℕ)) (outcome : Outcome) → status_of outcome ≢ ReadFault →
    IsAnswer call asked outcome → DecidesSplit (ospf_to_isis it.net) it.ranks (status_of outcome)
split_is_decided call it =
    ends_decided call (split_of it.most it.file it.configs) it.texts it.net [] it.accepted (DecidesSplit (ospf_to_isis it.net) it.ranks)
    (λ decision is. split_decides is.0 it.most it.net it.accepted.gives.0.make.network.ascending
    (said_of it.file (λ t. NamesWaves it.net t it.version it.ranks) it.text_is is.1 it.names) is.2)
