-- What a call of `why` promises.
use Rattle.std.proofs.Common.{◌≡◌, ◌≢◌, [], ℕ, List, length, refl, subst, sym}
use Rattle.change_orders.specs.TwoFiles.{AreTwoWaves, NamesTwo}
use Rattle.igp_theory.specs.LoopLaws.{BeginsOld}
use Rattle.igp_theory.specs.Loops.{IsFirstFault}
use Rattle.igp_theory.specs.Migrations.{Migration, ospf_to_isis}
use Rattle.igp_theory.specs.Timetables.{change_times, router_times}
use Rattle.igp_theory.specs.WaveFaults.{IsTimesFault}
use Rattle.igp_theory.specs.Waves.{AreSeamlessWaves}
use Rattle.igp_theory.proofs.Switches.{routers_have_times}
use Rattle.net_model.specs.Network.{Network}
use Rattle.net_model.specs.Refusals.{NamesAscend}
use Rattle.order_core.specs.Rankings.{flat_of, wave_count}
use Rattle.plan_theory.specs.Plans.{fault_told}
use Rattle.plan_theory.specs.declared.planned.EndFault.{EndFault}
use Rattle.step_scripts.proofs.WaveFileLaws.{no_fault}
use Rattle.step_scripts.specs.WaveFiles.{NamesWaves}
use Rattle.step_scripts.specs.declared.version.Version.{Version}
use Rattle.step_scripts.specs.declared.version.Version.TheVariants.{One, Two}
use Rattle.store_edge.specs.Sink.{AddsBytes}
use Rattle.explained_waves.proofs.Reasons.{forbids_earlier, may_be_earlier}
use Rattle.explained_texts.specs.ReasonTexts.{IsReasonsText}
use Rattle.explained_texts.proofs.WayStates.{order_in_one, times_in_one}
use Rattle.explained_changes.specs.ChangeReasons.{AreSoundChanges}
use Rattle.explained_changes.specs.ChangeReasonTexts.{IsChangeReasonsText}
use Rattle.explained_changes.proofs.ToldChanges.{first_before, none_earlier}
use Rattle.migrate_words.specs.Asked.{Asks}
use Rattle.migration_report.specs.Outcomes.{decision_status, decision_text, status_of, outcome_text}
use Rattle.migration_report.specs.declared.decision.Decision.{Decision}
use Rattle.migration_report.specs.declared.decision.Decision.TheVariants.{Safe, SafeWaves, Unsafe, UnsafeWave}
use Rattle.migration_report.specs.declared.outcome.Outcome.{Outcome}
use Rattle.migration_report.specs.declared.status.Status.TheVariants.{ReadFault}
use Rattle.migrate_cli.specs.Answers.{IsAnswer}
use Rattle.migrate_cli.specs.Calls.{Call, Course}
use Rattle.migrate_cli.specs.ChangesDecision.{IsChangesDecision}
use Rattle.migrate_cli.specs.ChangesDecision.IsChangesCheck.{named_changes}
use Rattle.migrate_cli.specs.ChangesDecision.IsChangesDecision.{safe_changes, unsafe_changes}
use Rattle.migrate_cli.specs.CheckDecision.{IsCheckDecision, IsOrderDecision, IsWavesDecision}
use Rattle.migrate_cli.specs.CheckDecision.IsCheckDecision.{by_changes, by_routers}
use Rattle.migrate_cli.specs.CheckDecision.IsCheckOver.{of_order, of_waves}
use Rattle.migrate_cli.specs.CheckDecision.IsOrderDecision.{unsafe}
use Rattle.migrate_cli.specs.CheckDecision.IsWavesDecision.{safe_waves, unsafe_wave}
use Rattle.migrate_cli.specs.Completeness.{Decides, IsYesOrNo}
use Rattle.migrate_cli.specs.Completeness.Decides.{yes, no}
use Rattle.migrate_cli.specs.ExplainedChanges.{AreExplainedChanges, IsExplainedChangesFile}
use Rattle.migrate_cli.specs.ExplainedChanges.AreExplainedChanges.{changes_reasons, changes_way}
use Rattle.migrate_cli.specs.ExplainedChanges.IsExplainedChangesFile.{explained_changes, faulty_changes}
use Rattle.migrate_cli.specs.ExplainedDecision.{IsExplainedDecision, IsExplainedFile, IsExplainedList, IsExplainedOrder, IsExplainedWaves}
use Rattle.migrate_cli.specs.ExplainedDecision.IsExplainedDecision.{explained_routers, explained_singles}
use Rattle.migrate_cli.specs.ExplainedDecision.IsExplainedFile.{explained_list, faulty_list}
use Rattle.migrate_cli.specs.ExplainedDecision.IsExplainedOrder.{order_reasons, order_way}
use Rattle.migrate_cli.specs.ExplainedDecision.IsExplainedWaves.{waves_reasons, waves_way}
use Rattle.migrate_cli.specs.ExplainedPromise.{AcceptsWhy, ExplainsFile, HasChangeReasons, HasExplained, HasReasons, NamesList, why_of}
use Rattle.migrate_cli.specs.ExplainedPromise.Explains.{explains_safe, explains_state, explains_wave}
use Rattle.migrate_cli.specs.ExplainedPromise.ExplainsChanges.{explains_change_wave, explains_changes}
use Rattle.migrate_cli.specs.ExplainedPromise.ExplainsFile.{of_changes, of_routers}
use Rattle.migrate_cli.specs.ExplainedPromise.NamesList.{changes_listed, routers_listed}
use Rattle.migrate_cli.specs.Reading.{NamedText, named_text}
use Rattle.migrate_cli.proofs.ChangesLaws.{names_changes, names_no_changes}
use Rattle.migrate_cli.proofs.CompletenessLaws.{ends_decided, said_of}
use Rattle.migrate_cli.proofs.DecidedLaws.{HasDecided, IsNoRefusal, answer_decided}
use Rattle.migrate_cli.proofs.ExplainedFacts.{change_table}
use Rattle.migrate_cli.proofs.PreparePromiseLaws.{own_is}

-- ---- what is told of a list ----

-- the reasons of a safe list show that no router may stand earlier than they say
has_reasons : (move : Migration) (ranks behind : List ℕ) → AreSeamlessWaves move ranks → IsReasonsText move ranks behind → HasReasons move ranks behind
has_reasons move ranks behind seamless told = record {
  seamless = seamless;
  told = told;
  none_earlier = λ v rank late lower there. late (may_be_earlier move ranks v seamless.throughout
      (λ fault reason. forbids_earlier move ranks v rank fault reason lower there));
}

-- and so do those of a list of single changes
has_change_reasons : (move : Migration) (ranks behind : List ℕ) → BeginsOld move → AreTwoWaves (length move.net) ranks → AreSoundChanges move ranks →
    IsChangeReasonsText move ranks behind → HasChangeReasons move ranks behind
has_change_reasons move ranks behind begins turns sound told = record {
  sound = sound;
  told = told;
  none_earlier = none_earlier move begins ranks turns sound behind told;
  first_before = first_before (length move.net) ranks turns;
}

first_of : {move : Migration} {order : List ℕ} {state : ℕ} {fault : EndFault} → IsOrderDecision move order (Unsafe state fault) →
    IsFirstFault move order state (fault_told fault)
first_of (unsafe _ _ _ first) = first

first_wave_of : {move : Migration} {ranks : List ℕ} {wave : ℕ} {fault : EndFault} → IsWavesDecision move ranks (UnsafeWave wave fault) →
    IsTimesFault move (router_times move.start ranks) wave (fault_told fault)
first_wave_of (unsafe_wave _ _ _ first) = first

first_change_wave_of : {move : Migration} {ranks : List ℕ} {wave : ℕ} {fault : EndFault} → IsChangesDecision move ranks (UnsafeWave wave fault) →
    IsTimesFault move (change_times ranks) wave (fault_told fault)
first_change_wave_of (unsafe_changes _ _ _ first) = first

sound_of : {move : Migration} {ranks : List ℕ} {waves : ℕ} → IsChangesDecision move ranks (SafeWaves waves) → AreSoundChanges move ranks
sound_of (safe_changes sound) = sound

seamless_of : {move : Migration} {ranks : List ℕ} {waves : ℕ} → IsWavesDecision move ranks (SafeWaves waves) → AreSeamlessWaves move ranks
seamless_of (safe_waves seamless) = seamless

-- a decision is that of `check`, explained
record IsCheckExplained (net : Network) (text : List ℕ) (d : Decision) : Type 0 where
  checked : Decision
  checks : (name : List ℕ) → IsCheckDecision (named_text name text) net checked
  status_is : decision_status d ≡ decision_status checked
  explains : ExplainsFile net text checked (decision_text net d)

module _ (net : Network) (text ranks : List ℕ) where
  abbrev move : Migration
  move = ospf_to_isis net

  order_explained : {d : Decision} → NamesWaves net text One ranks → IsExplainedOrder (ospf_to_isis net) ranks d → IsCheckExplained net text d
  order_explained names (order_reasons _ is seamless one) = record {
    checked = Safe;
    checks = λ name. by_routers Safe (names_no_changes net text One ranks names) (of_order ranks Safe names is);
    status_is = refl;
    explains = of_routers One ranks names (record {
      behind = one.behind;
      told = explains_safe Safe tt (has_reasons move ranks one.behind seamless one.told);
      text_is = one.text_is;
    });
  }
  order_explained names (order_way state fault _ _ is one) = record {
    checked = Unsafe state fault;
    checks = λ name. by_routers (Unsafe state fault) (names_no_changes net text One ranks names) (of_order ranks (Unsafe state fault) names is);
    status_is = refl;
    explains = of_routers One ranks names (record {
      behind = one.behind;
      told =
          explains_state state fault
          (record { told = one.told; shown = order_in_one move (flat_of ranks) state (fault_told fault) one.behind (first_of is) one.told });
      text_is = one.text_is;
    });
  }

  waves_explained : {d : Decision} → NamesWaves net text Two ranks → IsExplainedWaves (ospf_to_isis net) ranks d → IsCheckExplained net text d
  waves_explained names (waves_reasons _ is one) =
      let waves = SafeWaves (wave_count ranks) in
      record {
        checked = waves;
        checks = λ name. by_routers waves (names_no_changes net text Two ranks names) (of_waves ranks waves names is);
        status_is = refl;
        explains = of_routers Two ranks names (record {
          behind = one.behind;
          told = explains_safe waves tt (has_reasons move ranks one.behind (seamless_of is) one.told);
          text_is = one.text_is;
        });
      }
  waves_explained names (waves_way wave fault _ _ is one) = record {
    checked = UnsafeWave wave fault;
    checks = λ name. by_routers (UnsafeWave wave fault) (names_no_changes net text Two ranks names) (of_waves ranks (UnsafeWave wave fault) names is);
    status_is = refl;
    explains = of_routers Two ranks names (record {
      behind = one.behind;
      told = explains_wave wave fault (record {
        told = one.told;
        shown = times_in_one move (router_times move.start ranks) wave (routers_have_times (length move.net) move.start ranks) (fault_told fault)
            one.behind (first_wave_of is) one.told;
      });
      text_is = one.text_is;
    });
  }

  list_explained : (version : Version) (d : Decision) → NamesWaves net text version ranks → IsExplainedList (ospf_to_isis net) version ranks d →
      IsCheckExplained net text d
  list_explained One d names is = order_explained names is
  list_explained Two d names is = waves_explained names is

  changes_explained : {d : Decision} → NamesTwo net text ranks → AreTwoWaves (length net) ranks → AreExplainedChanges (ospf_to_isis net) ranks d →
      IsCheckExplained net text d
  changes_explained names turns (changes_reasons _ is one) =
      let waves = SafeWaves (wave_count ranks) in
      record {
        checked = waves;
        checks = λ name. by_changes waves (names_changes net text ranks names) (named_changes ranks waves names turns is);
        status_is = refl;
        explains = of_changes ranks names turns (record {
          behind = one.behind;
          told = explains_changes waves tt (has_change_reasons move ranks one.behind (λ u. refl) turns (sound_of is) one.told);
          text_is = one.text_is;
        });
      }
  changes_explained names turns (changes_way wave fault _ _ is one) = record {
    checked = UnsafeWave wave fault;
    checks = λ name. by_changes (UnsafeWave wave fault) (names_changes net text ranks names)
        (named_changes ranks (UnsafeWave wave fault) names turns is);
    status_is = refl;
    explains = of_changes ranks names turns (record {
      behind = one.behind;
      told = explains_change_wave wave fault (record {
        told = one.told;
        shown = times_in_one move (change_times ranks) wave (change_table move ranks (λ u. refl) turns) (fault_told fault) one.behind
            (first_change_wave_of is) one.told;
      });
      text_is = one.text_is;
    });
  }

module _ (net : Network) (order : NamedText) where
  file_explained : {d : Decision} → IsExplainedFile (ospf_to_isis net) order d → IsYesOrNo (decision_status d) → IsCheckExplained net order.text d
  file_explained (faulty_list _ _ _) of = absurd of
  file_explained (explained_list version ranks d names is) of = list_explained net order.text ranks version d names is

  changes_file_explained : {d : Decision} → IsExplainedChangesFile (ospf_to_isis net) order d → IsYesOrNo (decision_status d) →
      IsCheckExplained net order.text d
  changes_file_explained (faulty_changes _ _ _) of = absurd of
  changes_file_explained (explained_changes ranks d names turns is) of = changes_explained net order.text ranks names turns is

  decision_explained : {d : Decision} → IsExplainedDecision order net d → IsYesOrNo (decision_status d) → IsCheckExplained net order.text d
  decision_explained (explained_routers _ _ is) of = file_explained is of
  decision_explained (explained_singles _ _ is) of = changes_file_explained is of

-- ---- a call ----

-- no refusal ends as a yes or a no
pub verdict_no_refusal : IsNoRefusal IsYesOrNo
verdict_no_refusal = record { words = λ q. q; read = λ q. q; limit = λ q. q; refused = λ q. q }

module _ (call : Call) (file : List ℕ) (configs : List (List ℕ)) (outside : Course) (asks : Asks call.words (why_of file configs)) where
  by_decision : {outcome : Outcome} (it : HasDecided call (why_of file configs) outcome) (d : Decision) → IsExplainedDecision it.is.0 it.net d →
      AddsBytes outside.before.written outside.after.written (decision_text it.net d) → IsYesOrNo (decision_status d) →
      HasExplained call file configs outside (decision_status d)
  by_decision it d is writes of =
      let so = decision_explained it.net it.is.0 is of in
      record {
        texts = it.texts;
        read = it.read;
        within = it.within;
        net = it.net;
        gives = it.gives.0;
        start = it.start tt;
        text = it.is.0.text;
        text_is = own_is file it.texts it.is.0 it.is.1;
        checked = so.checked;
        checks = so.checks;
        status_is = so.status_is;
        written = decision_text it.net d;
        adds = writes;
        explains = so.explains;
      }

  pub has_explained : {asked : List (List ℕ)} {outcome : Outcome} → IsAnswer call asked outcome →
      AddsBytes outside.before.written outside.after.written (outcome_text outcome) → IsYesOrNo (status_of outcome) →
      HasExplained call file configs outside (status_of outcome)
  has_explained is adds of =
      let it = answer_decided IsYesOrNo verdict_no_refusal call (why_of file configs) tt asks is of in
      subst (λ (o : Outcome). HasExplained call file configs outside (status_of o)) (sym it.outcome_is)
      (by_decision it it.decision it.is.2
      (subst (λ (o : Outcome). AddsBytes outside.before.written outside.after.written (outcome_text o)) it.outcome_is adds)
      (subst (λ (o : Outcome). IsYesOrNo (status_of o)) it.outcome_is of))

-- ---- it decides ----

list_decides : (move : Migration) (version : Version) (ranks : List ℕ) (d : Decision) → IsExplainedList move version ranks d →
    Decides (decision_status d)
list_decides move One ranks d (order_reasons _ _ _ _) = yes
list_decides move One ranks d (order_way _ _ _ _ _ _) = no
list_decides move Two ranks d (waves_reasons _ _ _) = yes
list_decides move Two ranks d (waves_way _ _ _ _ _ _) = no

change_list_decides : {move : Migration} {ranks : List ℕ} {d : Decision} → AreExplainedChanges move ranks d → Decides (decision_status d)
change_list_decides (changes_reasons _ _ _) = yes
change_list_decides (changes_way _ _ _ _ _ _) = no

module _ (net : Network) (order : NamedText) (ascending : NamesAscend net) where
  file_decides : {version : Version} {ranks : List ℕ} {d : Decision} → NamesWaves net order.text version ranks →
      IsExplainedFile (ospf_to_isis net) order d → Decides (decision_status d)
  file_decides {version} {ranks} names (faulty_list n k least) = absurd (no_fault net order.text version ranks n k ascending names least.faulty)
  file_decides names (explained_list version ranks d _ is) = list_decides (ospf_to_isis net) version ranks d is

  changes_file_decides : {ranks : List ℕ} {d : Decision} → NamesTwo net order.text ranks → IsExplainedChangesFile (ospf_to_isis net) order d →
      Decides (decision_status d)
  changes_file_decides names (faulty_changes n k least) = absurd (names.faultless n k least.faulty)
  changes_file_decides names (explained_changes _ _ _ _ is) = change_list_decides is

  explained_decides : {d : Decision} → NamesList net order.text → IsExplainedDecision order net d → Decides (decision_status d)
  explained_decides (routers_listed version ranks names) (explained_routers _ _ is) = file_decides names is
  explained_decides (routers_listed version ranks names) (explained_singles _ begins _) =
      absurd (names_no_changes net order.text version ranks names begins)
  explained_decides (changes_listed ranks names) (explained_routers _ not _) = absurd (not (names_changes net order.text ranks names))
  explained_decides (changes_listed ranks names) (explained_singles _ _ is) = changes_file_decides names is

pub why_decides : (call : Call) → (it : AcceptsWhy call) → (asked : List (List ℕ)) (outcome : Outcome) → status_of outcome ≢ ReadFault →
    IsAnswer call asked outcome → Decides (status_of outcome)
why_decides call it =
    ends_decided call (why_of it.file it.configs) it.texts it.net [] it.accepted Decides
    (λ decision is. explained_decides it.net is.0 it.accepted.gives.0.make.network.ascending
    (said_of it.file (λ t. NamesList it.net t) it.text_is is.1 it.names) is.2)
