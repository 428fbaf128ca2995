-- What a call of `failures` promises.
use Rattle.std.proofs.Common.{◌≢◌, [], ℕ, List, length, refl, subst, sym}
use Rattle.net_addr.specs.Addresses.{Block}
use Rattle.net_model.specs.Network.{Network}
use Rattle.net_model.specs.Refusals.{NamesAscend}
use Rattle.igp_theory.specs.LoopLaws.{AreSoundEnds}
use Rattle.igp_theory.specs.Migrations.{Migration, ospf_to_isis}
use Rattle.igp_theory.specs.Timetables.{router_times}
use Rattle.igp_theory.specs.Waves.{AreSeamlessWaves}
use Rattle.igp_theory.proofs.Delivery.{delivers_sound, isis_hop_is_router, ospf_hop_is_router, sound_delivers}
use Rattle.igp_theory.proofs.FaultLaws.{faulty_not_seamless}
use Rattle.igp_theory.proofs.FlatOrders.{flat_is_seamless}
use Rattle.igp_theory.proofs.Switches.{routers_have_times}
use Rattle.igp_theory.proofs.WaveFaultLaws.{times_fault_unsound}
use Rattle.order_core.specs.Rankings.{IsRanking}
use Rattle.plan_theory.proofs.Meaning.{plan_means}
use Rattle.plan_theory.specs.declared.planned.Planned.TheVariants.{UnsoundOld as OldEnd, UnsoundNew as NewEnd}
use Rattle.step_scripts.specs.WaveFiles.{NamesWaves}
use Rattle.step_scripts.specs.declared.version.Version.{Version}
use Rattle.step_scripts.specs.declared.version.Version.TheVariants.{One, Two}
use Rattle.store_edge.specs.Sink.{AddsBytes}
use Rattle.failed_links.proofs.DownFacts.{KeepsRouters-all}
use Rattle.failed_links.specs.ShutDown.{StandsWithout, shut_down}
use Rattle.failure_texts.proofs.CountFacts.{CountsAddUp-all}
use Rattle.failure_texts.specs.declared.verdict.LinkVerdict.{LinkVerdict}
use Rattle.migrate_words.specs.Asked.{Asks}
use Rattle.migration_report.specs.Outcomes.{decision_status, decision_text, status_of, outcome_text}
use Rattle.migration_report.specs.declared.decision.Decision.{Decision}
use Rattle.migration_report.specs.declared.outcome.Outcome.{Outcome}
use Rattle.migration_report.specs.declared.status.Status.TheVariants.{ReadFault}
use Rattle.migrate_cli.specs.Answers.{IsAnswer}
use Rattle.migrate_cli.specs.Calls.{Call, Course}
use Rattle.migrate_cli.specs.CheckDecision.{IsCheckOver}
use Rattle.migrate_cli.specs.CheckDecision.IsCheckDecision.{by_routers}
use Rattle.migrate_cli.specs.CheckDecision.IsCheckOver.{faulty_order, of_order, of_waves}
use Rattle.migrate_cli.specs.CheckDecision.IsOrderDecision.{safe, unsafe}
use Rattle.migrate_cli.specs.CheckDecision.IsWavesDecision.{safe_waves, unsafe_wave}
use Rattle.migrate_cli.specs.Completeness.{Decides, IsYesOrNo}
use Rattle.migrate_cli.specs.Completeness.Decides.{yes, no}
use Rattle.migrate_cli.specs.FailuresDecision.{IsFailuresDecision, IsLinkVerdict, IsVerdictOver, without_link}
use Rattle.migrate_cli.specs.FailuresDecision.IsFailuresDecision.{no_yes, of_links}
use Rattle.migrate_cli.specs.FailuresDecision.IsLinkVerdict.{refused, judged}
use Rattle.migrate_cli.specs.FailuresDecision.IsToldFailures.{none_breaks, some_breaks}
use Rattle.migrate_cli.specs.FailuresDecision.IsVerdictOver.{old_end, new_end, order_kept, order_broken, waves_kept, waves_broken}
use Rattle.migrate_cli.specs.FailuresPromise.{AcceptsFailures, HasFailures, BreaksList, MeansOfLink, TellsFailures, failures_of}
use Rattle.migrate_cli.specs.FailuresPromise.TellsFailures.{tells_links, tells_no}
use Rattle.migrate_cli.specs.Headline.{WavesDeliver}
use Rattle.migrate_cli.specs.Reading.{NamedText}
use Rattle.migrate_cli.proofs.ChangesLaws.{names_no_changes}
use Rattle.migrate_cli.proofs.CompletenessLaws.{check_of_waves, ends_decided, said_of}
use Rattle.migrate_cli.proofs.DecidedLaws.{HasDecided, IsNoRefusal, answer_decided}
use Rattle.migrate_cli.proofs.HeadlineLaws.{none_delivers}
use Rattle.migrate_cli.proofs.PictureLaws.{renamed}
use Rattle.migrate_cli.proofs.PreparePromiseLaws.{own_is}
use Rattle.migrate_cli.proofs.SplitLaws.{named_ranking}

-- ---- a link, in packets ----

module _ (net : Network) (ranks : List ℕ) (p : Block) where
  abbrev rest : Migration
  rest = without_link net p

  delivered : AreSeamlessWaves rest ranks → WavesDeliver rest ranks
  delivered seamless state of a q address target =
      sound_delivers rest state a q (λ u h r e below entry leads. ospf_hop_is_router (shut_down p net) u h r e entry leads)
      (λ u h r e below entry leads. isis_hop_is_router (shut_down p net) u h r e entry leads) (seamless.throughout.sound state of) address target

  -- a list that delivers throughout is seamless
  seamless_where_delivered : IsRanking (length net) ranks → WavesDeliver rest ranks → AreSeamlessWaves rest ranks
  seamless_where_delivered ranking deliver = record {
    waves = subst (λ n. IsRanking n ranks) (sym (KeepsRouters-all p net).0) ranking;
    throughout = record {
      table = routers_have_times (length (shut_down p net)) rest.start ranks;
      sound = λ state of. delivers_sound rest state (deliver state of);
    };
  }

  broken : IsRanking (length net) ranks → StandsWithout net p → AreSoundEnds rest → ¬ AreSeamlessWaves rest ranks → BreaksList net ranks p
  broken ranking stands ends never = record {
    stands = stands;
    ends = ends;
    loses = λ deliver. never (seamless_where_delivered ranking deliver);
    not_sound = never;
  }

  means_over : {version : Version} {v : LinkVerdict} → IsRanking (length net) ranks → StandsWithout net p → IsVerdictOver rest ranks version v →
      MeansOfLink net ranks p v
  means_over ranking stands (old_end fault is) =
      (record { stands = stands; none = none_delivers rest (plan_means rest 0 (OldEnd fault) (λ u. refl) is) }, is)
  means_over ranking stands (new_end fault is) =
      (record { stands = stands; none = none_delivers rest (plan_means rest 0 (NewEnd fault) (λ u. refl) is) }, is)
  means_over ranking stands (order_kept _ _ seamless) = record { stands = stands; deliver = delivered seamless; sound = seamless }
  means_over ranking stands (order_broken state fault ends first) =
      (broken ranking stands ends (λ seamless. faulty_not_seamless first (flat_is_seamless rest ranks (λ u. refl) seamless)), first)
  means_over ranking stands (waves_kept _ seamless) = record { stands = stands; deliver = delivered seamless; sound = seamless }
  means_over ranking stands (waves_broken wave fault ends first) =
      (broken ranking stands ends (λ seamless. times_fault_unsound rest (router_times rest.start ranks) wave _ first seamless.throughout), first)

  link_means : {version : Version} {v : LinkVerdict} → IsRanking (length net) ranks → IsLinkVerdict net version ranks p v → MeansOfLink net ranks p v
  link_means ranking (refused r is) = is
  link_means ranking (judged v stands is) = means_over ranking stands is

-- ---- a call ----

-- no refusal ends as a yes or a no
verdict_no_refusal : IsNoRefusal IsYesOrNo
verdict_no_refusal = record { words = λ q. q; read = λ q. q; limit = λ q. q; refused = λ q. q }

module _ (call : Call) (file : List ℕ) (configs : List (List ℕ)) (outside : Course) (asks : Asks call.words (failures_of file configs)) where
  -- what is told of a list
  told_of : {outcome : Outcome} (it : HasDecided call (failures_of file configs) outcome) (d checked : Decision) (version : Version) (ranks : List ℕ) →
      NamesWaves it.net it.is.0.text version ranks → IsCheckOver (ospf_to_isis it.net) it.is.0 checked →
      AddsBytes outside.before.written outside.after.written (decision_text it.net d) →
      TellsFailures it.net version ranks checked (decision_status d) (decision_text it.net d) →
      HasFailures call file configs outside (decision_status d)
  told_of it d checked version ranks names checks writes tells = record {
    texts = it.texts;
    read = it.read;
    within = it.within;
    net = it.net;
    gives = it.gives.0;
    start = it.start tt;
    text = it.is.0.text;
    text_is = own_is file it.texts it.is.0 it.is.1;
    version = version;
    ranks = ranks;
    names = names;
    checked = checked;
    checks = λ name. by_routers checked (names_no_changes it.net it.is.0.text version ranks names)
        (renamed it.is.0 it.net name it.gives.0.make.network.ascending names checks);
    written = decision_text it.net d;
    adds = writes;
    tells = tells;
  }

  by_decision : {outcome : Outcome} (it : HasDecided call (failures_of file configs) outcome) (d : Decision) → IsFailuresDecision it.is.0 it.net d →
      AddsBytes outside.before.written outside.after.written (decision_text it.net d) → IsYesOrNo (decision_status d) →
      HasFailures call file configs outside (decision_status d)
  by_decision it d (no_yes _ (faulty_order _ _ _) _) writes of = absurd of
  by_decision it d (no_yes _ (of_order _ _ _ (safe _)) never) writes of = absurd (never tt)
  by_decision it d (no_yes _ (of_order ranks e names (unsafe state fault none first)) never) writes of =
      told_of it d d One ranks names (of_order ranks e names (unsafe state fault none first)) writes
      (tells_no (record { no = never; status_is = refl; line = refl }))
  by_decision it d (no_yes _ (of_waves _ _ _ (safe_waves _)) never) writes of = absurd (never tt)
  by_decision it d (no_yes _ (of_waves ranks e names (unsafe_wave wave fault none first)) never) writes of =
      told_of it d d Two ranks names (of_waves ranks e names (unsafe_wave wave fault none first)) writes
      (tells_no (record { no = never; status_is = refl; line = refl }))
  by_decision it d (of_links version ranks checked _ failed network names checks says are (none_breaks none)) writes of =
      told_of it d checked version ranks names checks writes
      (tells_links (record {
        yes = says;
        failed = failed;
        exact = are;
        means = λ k x within. link_means it.net ranks _ (named_ranking it.net it.is.0.text version ranks names) (are.verdicts k x within);
        add_up = CountsAddUp-all failed;
        done = λ _. none;
        negative = λ e. absurd (Prim.cc e);
        text = refl;
      }))
  by_decision it d (of_links version ranks checked _ failed network names checks says are (some_breaks some)) writes of =
      told_of it d checked version ranks names checks writes
      (tells_links (record {
        yes = says;
        failed = failed;
        exact = are;
        means = λ k x within. link_means it.net ranks _ (named_ranking it.net it.is.0.text version ranks names) (are.verdicts k x within);
        add_up = CountsAddUp-all failed;
        done = λ e. absurd (Prim.cc e);
        negative = λ _. some;
        text = refl;
      }))

  pub has_failures : {asked : List (List ℕ)} {outcome : Outcome} → IsAnswer call asked outcome →
      AddsBytes outside.before.written outside.after.written (outcome_text outcome) → IsYesOrNo (status_of outcome) →
      HasFailures call file configs outside (status_of outcome)
  has_failures is adds of =
      let it = answer_decided IsYesOrNo verdict_no_refusal call (failures_of file configs) tt asks is of in
      subst (λ (o : Outcome). HasFailures call file configs outside (status_of o)) (sym it.outcome_is)
      (by_decision it it.decision it.is.2
      (subst (λ (o : Outcome). AddsBytes outside.before.written outside.after.written (outcome_text o)) it.outcome_is adds)
      (subst (λ (o : Outcome). IsYesOrNo (status_of o)) it.outcome_is of))

-- ---- it decides ----

failures_decided : (order : NamedText) (net : Network) {version : Version} {ranks : List ℕ} {d : Decision} → NamesAscend net →
    NamesWaves net order.text version ranks → IsFailuresDecision order net d → Decides (decision_status d)
failures_decided order net ascending names (no_yes _ checks _) = check_of_waves {order = order} ascending names checks
failures_decided order net ascending names (of_links _ _ _ _ _ _ _ _ _ _ (none_breaks _)) = yes
failures_decided order net ascending names (of_links _ _ _ _ _ _ _ _ _ _ (some_breaks _)) = no

pub failures_decides : (call : Call) → (it : AcceptsFailures call) → (asked : List (List ℕ)) (outcome : Outcome) → status_of outcome ≢ ReadFault →
    IsAnswer call asked outcome → Decides (status_of outcome)
failures_decides call it =
    ends_decided call (failures_of it.file it.configs) it.texts it.net [] it.accepted Decides
    (λ decision is. failures_decided is.0 it.net it.accepted.gives.0.make.network.ascending
    (said_of it.file (λ t. NamesWaves it.net t it.version it.ranks) it.text_is is.1 it.names) is.2)
