-- Over tables with the same entries the text of the reasons of single changes is the same.
use Rattle.std.proofs.Common.{ℕ, List, map}
use Rattle.order_core.specs.declared.turn.Turn.{Turn}
use Rattle.igp_theory.specs.Laws.{HaveSameTables}
use Rattle.igp_theory.specs.Migrations.{Migration, retabled}
use Rattle.igp_theory.specs.Routes.{Tables}
use Rattle.igp_theory.proofs.SameTables.{arises_over}
use Rattle.igp_theory.proofs.WaveFaultLaws.{times_fault_over}
use Rattle.plan_theory.specs.Ranked.{by_router}
use Rattle.plan_theory.specs.declared.items.Items.TheVariants.{Changes}
use Rattle.plan_theory.proofs.PlanTables.{real_stays}
use Rattle.explained_texts.proofs.SameTexts.{throughout_over}
use Rattle.explained_texts.proofs.ToldTexts.{told_over}
use Rattle.explained_changes.specs.ChangeReasons.{IsChangeReason}
use Rattle.explained_changes.specs.ChangeReasonTexts.{IsChangeLine, IsChangeReasonsText}
use Rattle.explained_changes.specs.ChangeReasonTexts.{change_comes_after, change_may_be_earlier, change_of_first_wave, right_behind}

module _ {move : Migration} {old' new' : Tables} (same : HaveSameTables move old' new') where
  abbrev other : Migration
  other = retabled move old' new'

  change_reason_over : {ranks : List ℕ} {i a : ℕ} {turns : List Turn} → IsChangeReason move ranks i a turns → IsChangeReason other ranks i a turns
  change_reason_over {a = a} {turns = turns} reason = record {
    loops = real_stays move old' new' same Changes a turns reason.loops;
    arises = record {
      state = reason.arises.state;
      of_wave = reason.arises.of_wave;
      arises = arises_over reason.arises.state a (map by_router turns) same reason.arises.arises;
    };
    is_new = reason.is_new;
    after = reason.after;
    is_old = reason.is_old;
    just_before = reason.just_before;
    none_earlier = reason.none_earlier;
  }

  line_over : (ranks : List ℕ) (i : ℕ) (text : List ℕ) → IsChangeLine move ranks i text → IsChangeLine other ranks i text
  line_over ranks i text (change_of_first_wave none) = change_of_first_wave none
  line_over ranks i text (right_behind behind) = right_behind behind
  line_over ranks i text (change_may_be_earlier later apart may) = change_may_be_earlier later apart (throughout_over same may)
  line_over ranks i text (change_comes_after a after turns later apart keeps lowest) =
      change_comes_after a after turns later apart
      (record { told = times_fault_over same keeps.told; reason = change_reason_over keeps.reason }) lowest

  pub change_reasons_over : {ranks text : List ℕ} → IsChangeReasonsText move ranks text → IsChangeReasonsText other ranks text
  change_reasons_over {ranks} is = told_over (IsChangeLine move ranks) (IsChangeLine other ranks) (λ i told inside. line_over ranks i told) is
