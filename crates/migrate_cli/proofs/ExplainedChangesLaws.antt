-- `why` decides one thing of an order file of single changes, which has a text.
use Rattle.std.proofs.Common.{◌≡◌, ◌∙◌, ◌++◌, ℕ, List, ap, subst, sym}
use Rattle.net_model.specs.Refusals.{NamesAscend}
use Rattle.igp_theory.specs.LoopLaws.{BeginsOld}
use Rattle.igp_theory.specs.Migrations.{Migration}
use Rattle.order_core.specs.Rankings.{wave_count}
use Rattle.plan_theory.specs.Plans.{fault_told}
use Rattle.plan_theory.specs.declared.planned.EndFault.{EndFault}
use Rattle.change_orders.proofs.TwoFileLaws.{one_list}
use Rattle.explained_texts.specs.TextLaws.{HasOneEntry}
use Rattle.explained_texts.specs.WayTexts.{IsWayText, change_span}
use Rattle.explained_texts.proofs.OneText.{one_way_text}
use Rattle.explained_changes.proofs.OneChangeText.{one_change_reasons_text}
use Rattle.migration_report.specs.Outcomes.{IsTellable, decision_text}
use Rattle.migration_report.specs.declared.decision.Decision.{Decision}
use Rattle.migration_report.specs.declared.decision.Decision.TheVariants.{SafeWaves, UnsafeWave, ExplainedSafe, ExplainedUnsafe}
use Rattle.migrate_cli.specs.ExplainedChanges.{AreExplainedChanges, IsExplainedChangesFile}
use Rattle.migrate_cli.specs.ExplainedChanges.AreExplainedChanges.{changes_reasons, changes_way}
use Rattle.migrate_cli.specs.ExplainedChanges.IsExplainedChangesFile.{explained_changes, faulty_changes}
use Rattle.migrate_cli.specs.ExplainedTexts.{TellsBehind}
use Rattle.migrate_cli.specs.Reading.{NamedText}
use Rattle.migrate_cli.proofs.ChangesLaws.{one_changes_decision, one_faulty_changes}

-- where one text alone is told behind what texts begin with, there is one of them
pub one_behind : {Told : List ℕ → Type 0} {first text other : List ℕ} → ((s t : List ℕ) → Told s → Told t → s ≡ t) → TellsBehind Told first text →
    TellsBehind Told first other → text ≡ other
one_behind {first = first} once one two =
    one.text_is ∙ ap (λ (behind : List ℕ). first ++ behind) (once one.behind two.behind one.told two.told) ∙ sym two.text_is

-- a yes is no no
pub waves_safe_or_unsafe : (waves wave : ℕ) (fault : EndFault) → SafeWaves waves ≡ UnsafeWave wave fault → ⊥
waves_safe_or_unsafe waves wave fault e = Prim.cc e

-- a migration whose tables have one entry for a prefix, and in which every router begins in Old
module _ (move : Migration) (one_old : HasOneEntry move.net move.old) (one_new : HasOneEntry move.net move.new) (begins : BeginsOld move) where
  one_explained : (ranks : List ℕ) {d e : Decision} → AreExplainedChanges move ranks d → AreExplainedChanges move ranks e → d ≡ e
  one_explained ranks (changes_reasons s _ one) (changes_reasons t _ two) =
      ap (λ (text : List ℕ). ExplainedSafe text) (one_behind (one_change_reasons_text move begins ranks) one two)
  one_explained ranks (changes_reasons _ is _) (changes_way wave fault _ _ its _) =
      absurd (waves_safe_or_unsafe (wave_count ranks) wave fault (one_changes_decision is its))
  one_explained ranks (changes_way wave fault _ _ its _) (changes_reasons _ is _) =
      absurd (waves_safe_or_unsafe (wave_count ranks) wave fault (one_changes_decision is its))
  one_explained ranks (changes_way n fault s network is one) (changes_way m other t _ its two) =
      let same : UnsafeWave n fault ≡ UnsafeWave m other = one_changes_decision is its in
      let waves : n ≡ m = cc same in
      let faults : fault ≡ other = cc same in
      ap (λ (text : List ℕ). ExplainedUnsafe text)
      (one_behind (λ a b. one_way_text move network one_old one_new (change_span ranks m))
      (subst (λ (f : EndFault). TellsBehind (IsWayText move (change_span ranks m) (fault_told f)) (decision_text move.net (UnsafeWave m f)) s) faults
      (subst (λ (k : ℕ). TellsBehind (IsWayText move (change_span ranks k) (fault_told fault)) (decision_text move.net (UnsafeWave k fault)) s) waves
      one)) two)

  pub one_explained_changes_file : (order : NamedText) {d e : Decision} → NamesAscend move.net → IsExplainedChangesFile move order d →
      IsExplainedChangesFile move order e → d ≡ e
  one_explained_changes_file order ascending (faulty_changes n k one) (faulty_changes m j other) =
      one_faulty_changes move.net order n m k j one other
  one_explained_changes_file order ascending (faulty_changes n k least) (explained_changes _ _ names _ _) = absurd (names.faultless n k least.faulty)
  one_explained_changes_file order ascending (explained_changes _ _ names _ _) (faulty_changes n k least) = absurd (names.faultless n k least.faulty)
  one_explained_changes_file order {e = e} ascending (explained_changes one _ names _ is) (explained_changes other _ again _ its) =
      let same : one ≡ other = one_list move.net order.text one other ascending names again in
      one_explained one is (subst (λ (ranks : List ℕ). AreExplainedChanges move ranks e) (sym same) its)

changes_tellable : {move : Migration} {ranks : List ℕ} {d : Decision} → AreExplainedChanges move ranks d → IsTellable move.net d
changes_tellable (changes_reasons _ _ _) = tt
changes_tellable (changes_way _ _ _ _ _ _) = tt

pub explained_changes_tellable : (move : Migration) (order : NamedText) {d : Decision} → IsExplainedChangesFile move order d → IsTellable move.net d
explained_changes_tellable move order (faulty_changes _ _ _) = tt
explained_changes_tellable move order (explained_changes _ _ _ _ is) = changes_tellable is
