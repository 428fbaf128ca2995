-- `why` decides one thing of an order file and a network, which has a text.
use Rattle.std.proofs.Common.{◌≡◌, ℕ, List, ap, refl, subst, sym}
use Rattle.net_model.specs.Network.{Network}
use Rattle.net_model.specs.Refusals.{NamesAscend}
use Rattle.igp_theory.specs.Migrations.{Migration, ospf_to_isis}
use Rattle.igp_theory.proofs.TableLaws.{isis_entry_unique, ospf_entry_unique}
use Rattle.order_core.specs.Rankings.{flat_of, wave_count}
use Rattle.plan_theory.specs.Plans.{fault_told}
use Rattle.plan_theory.specs.declared.planned.EndFault.{EndFault}
use Rattle.step_scripts.proofs.WaveFileLaws.{no_fault, one_faulty_line, one_wave_list}
use Rattle.step_scripts.specs.declared.version.Version.{Version}
use Rattle.step_scripts.specs.declared.version.Version.TheVariants.{One, Two}
use Rattle.explained_texts.specs.TextLaws.{HasOneEntry}
use Rattle.explained_texts.specs.WayTexts.{IsWayText, order_span, wave_span}
use Rattle.explained_texts.proofs.OneText.{one_reasons_text, one_way_text}
use Rattle.migration_report.specs.Outcomes.{IsTellable, decision_text}
use Rattle.migration_report.specs.declared.decision.Decision.{Decision}
use Rattle.migration_report.specs.declared.decision.Decision.TheVariants.{Safe, Unsafe, UnsafeWave, BadOrder, ExplainedSafe, ExplainedUnsafe}
use Rattle.migrate_cli.specs.ExplainedDecision.{IsExplainedDecision, IsExplainedFile, IsExplainedList, IsExplainedOrder, IsExplainedWaves}
use Rattle.migrate_cli.specs.ExplainedTexts.{TellsBehind}
use Rattle.migrate_cli.specs.ExplainedDecision.IsExplainedDecision.{explained_routers, explained_singles}
use Rattle.migrate_cli.specs.ExplainedDecision.IsExplainedFile.{explained_list, faulty_list}
use Rattle.migrate_cli.specs.ExplainedDecision.IsExplainedOrder.{order_reasons, order_way}
use Rattle.migrate_cli.specs.ExplainedDecision.IsExplainedWaves.{waves_reasons, waves_way}
use Rattle.migrate_cli.specs.Reading.{NamedText}
use Rattle.migrate_cli.proofs.CheckLaws.{one_order_decision, one_waves_decision}
use Rattle.migrate_cli.proofs.ExplainedChangesLaws.{explained_changes_tellable, one_behind, one_explained_changes_file, waves_safe_or_unsafe}

-- a yes is no no
safe_or_unsafe : (state : ℕ) (fault : EndFault) → Safe ≡ Unsafe state fault → ⊥
safe_or_unsafe state fault e = Prim.cc e

-- a migration whose tables have one entry for a prefix
module _ (move : Migration) (one_old : HasOneEntry move.net move.old) (one_new : HasOneEntry move.net move.new) (ranks : List ℕ) where
  one_explained_order : {d e : Decision} → IsExplainedOrder move ranks d → IsExplainedOrder move ranks e → d ≡ e
  one_explained_order (order_reasons s _ _ one) (order_reasons t _ _ two) =
      ap (λ (text : List ℕ). ExplainedSafe text) (one_behind (one_reasons_text move ranks) one two)
  one_explained_order (order_reasons _ is _ _) (order_way state fault _ _ its _) = absurd (safe_or_unsafe state fault (one_order_decision is its))
  one_explained_order (order_way state fault _ _ its _) (order_reasons _ is _ _) = absurd (safe_or_unsafe state fault (one_order_decision is its))
  one_explained_order (order_way n fault s network is one) (order_way m other t _ its two) =
      let same : Unsafe n fault ≡ Unsafe m other = one_order_decision is its in
      let states : n ≡ m = cc same in
      let faults : fault ≡ other = cc same in
      ap (λ (text : List ℕ). ExplainedUnsafe text)
      (one_behind (λ a b. one_way_text move network one_old one_new (order_span (flat_of ranks) m))
      (subst (λ (f : EndFault). TellsBehind (IsWayText move (order_span (flat_of ranks) m) (fault_told f)) (decision_text move.net (Unsafe m f)) s) faults
      (subst (λ (k : ℕ). TellsBehind (IsWayText move (order_span (flat_of ranks) k) (fault_told fault)) (decision_text move.net (Unsafe k fault)) s) states
      one)) two)

  one_explained_waves : {d e : Decision} → IsExplainedWaves move ranks d → IsExplainedWaves move ranks e → d ≡ e
  one_explained_waves (waves_reasons s _ one) (waves_reasons t _ two) =
      ap (λ (text : List ℕ). ExplainedSafe text) (one_behind (one_reasons_text move ranks) one two)
  one_explained_waves (waves_reasons _ is _) (waves_way wave fault _ _ its _) =
      absurd (waves_safe_or_unsafe (wave_count ranks) wave fault (one_waves_decision is its))
  one_explained_waves (waves_way wave fault _ _ its _) (waves_reasons _ is _) =
      absurd (waves_safe_or_unsafe (wave_count ranks) wave fault (one_waves_decision is its))
  one_explained_waves (waves_way n fault s network is one) (waves_way m other t _ its two) =
      let same : UnsafeWave n fault ≡ UnsafeWave m other = one_waves_decision is its in
      let waves : n ≡ m = cc same in
      let faults : fault ≡ other = cc same in
      ap (λ (text : List ℕ). ExplainedUnsafe text)
      (one_behind (λ a b. one_way_text move network one_old one_new (wave_span move.start ranks m))
      (subst (λ (f : EndFault). TellsBehind (IsWayText move (wave_span move.start ranks m) (fault_told f)) (decision_text move.net (UnsafeWave m f)) s) faults
      (subst (λ (k : ℕ). TellsBehind (IsWayText move (wave_span move.start ranks k) (fault_told fault)) (decision_text move.net (UnsafeWave k fault)) s) waves
      one)) two)

  one_explained_list : (version : Version) (d e : Decision) → IsExplainedList move version ranks d → IsExplainedList move version ranks e → d ≡ e
  one_explained_list One d e is its = one_explained_order is its
  one_explained_list Two d e is its = one_explained_waves is its

module _ (order : NamedText) (net : Network) where
  one_of_list : (version its_version : Version) (ranks its_ranks : List ℕ) (d e : Decision) → version ≡ its_version → ranks ≡ its_ranks →
      IsExplainedList (ospf_to_isis net) version ranks d → IsExplainedList (ospf_to_isis net) its_version its_ranks e → d ≡ e
  one_of_list version its_version ranks its_ranks d e versions lists is its =
      one_explained_list (ospf_to_isis net) (λ u p a b within one two. ospf_entry_unique one two)
      (λ u p a b within one two. isis_entry_unique one two) ranks version d e is
      (subst (λ (v : Version). IsExplainedList (ospf_to_isis net) v ranks e) (sym versions)
      (subst (λ (r : List ℕ). IsExplainedList (ospf_to_isis net) its_version r e) (sym lists) its))

  one_explained_file : {d e : Decision} → NamesAscend net → IsExplainedFile (ospf_to_isis net) order d → IsExplainedFile (ospf_to_isis net) order e →
      d ≡ e
  one_explained_file ascending (faulty_list n k one) (faulty_list m j other) =
      let same = one_faulty_line net order.text n m k j one other in λ i. BadOrder order.file (same.0 i) (same.1 i)
  one_explained_file ascending (faulty_list n k least) (explained_list version ranks _ names _) =
      absurd (no_fault net order.text version ranks n k ascending names least.faulty)
  one_explained_file ascending (explained_list version ranks _ names _) (faulty_list n k least) =
      absurd (no_fault net order.text version ranks n k ascending names least.faulty)
  one_explained_file ascending (explained_list version ranks d names is) (explained_list its_version its_ranks e again its) =
      let same = one_wave_list net order.text version its_version ranks its_ranks ascending names again in
      one_of_list version its_version ranks its_ranks d e same.0 same.1 is its

  -- `why` decides one thing of an order file
  pub one_explained_decision : {d e : Decision} → NamesAscend net → IsExplainedDecision order net d → IsExplainedDecision order net e → d ≡ e
  one_explained_decision ascending (explained_routers _ _ is) (explained_routers _ _ its) = one_explained_file ascending is its
  one_explained_decision ascending (explained_routers _ not _) (explained_singles _ begins _) = absurd (not begins)
  one_explained_decision ascending (explained_singles _ begins _) (explained_routers _ not _) = absurd (not begins)
  one_explained_decision ascending (explained_singles _ _ is) (explained_singles _ _ its) =
      one_explained_changes_file (ospf_to_isis net) (λ u p a b within one two. ospf_entry_unique one two)
      (λ u p a b within one two. isis_entry_unique one two) (λ u. refl) order ascending is its

  list_tellable : (version : Version) (ranks : List ℕ) (d : Decision) → IsExplainedList (ospf_to_isis net) version ranks d → IsTellable net d
  list_tellable One ranks d (order_reasons _ _ _ _) = tt
  list_tellable One ranks d (order_way _ _ _ _ _ _) = tt
  list_tellable Two ranks d (waves_reasons _ _ _) = tt
  list_tellable Two ranks d (waves_way _ _ _ _ _ _) = tt

  file_tellable : {d : Decision} → IsExplainedFile (ospf_to_isis net) order d → IsTellable net d
  file_tellable (faulty_list _ _ _) = tt
  file_tellable (explained_list version ranks d _ is) = list_tellable version ranks d is

  pub explained_tellable : {d : Decision} → IsExplainedDecision order net d → IsTellable net d
  explained_tellable (explained_routers _ _ is) = file_tellable is
  explained_tellable (explained_singles _ _ is) = explained_changes_tellable (ospf_to_isis net) order is
