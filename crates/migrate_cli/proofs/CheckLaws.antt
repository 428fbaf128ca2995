-- `check` decides one thing of an order file and a network.
use Rattle.std.proofs.Common.{◌≡◌, ℕ, List, length, refl, sym, subst}
use Rattle.igp_theory.proofs.FaultLaws.{first_fault_unique}
use Rattle.igp_theory.proofs.WaveFaultLaws.{times_fault_unique}
use Rattle.igp_theory.specs.Migrations.{Migration}
use Rattle.igp_theory.specs.States.{state_of}
use Rattle.igp_theory.specs.Timetables.{IsStateOfWave, router_times}
use Rattle.net_model.specs.Refusals.{NamesAscend}
use Rattle.order_core.specs.Rankings.{flat_of}
use Rattle.plan_theory.proofs.OnePlan.{told_once}
use Rattle.step_scripts.proofs.WaveFileLaws.{no_fault, one_faulty_line, one_wave_list}
use Rattle.step_scripts.specs.declared.version.Version.TheVariants.{One, Two}
use Rattle.migration_report.specs.Outcomes.{IsTellable}
use Rattle.migration_report.specs.declared.decision.Decision.{Decision}
use Rattle.migration_report.specs.declared.decision.Decision.TheVariants.{Unsafe, UnsafeWave, BadOrder}
use Rattle.migrate_cli.specs.CheckDecision.{IsCheckOver, IsOrderDecision, IsWavesDecision}
use Rattle.migrate_cli.specs.CheckDecision.IsOrderDecision.{safe, unsafe}
use Rattle.migrate_cli.specs.CheckDecision.IsWavesDecision.{safe_waves, unsafe_wave}
use Rattle.migrate_cli.specs.CheckDecision.IsCheckOver.{faulty_order, of_order, of_waves}
use Rattle.migrate_cli.specs.Reading.{NamedText}
use Rattle.migrate_cli.proofs.FaultFacts.{fault_below, fault_over_below}

-- one thing is decided of an order
pub one_order_decision : {move : Migration} {order : List ℕ} {d e : Decision} → IsOrderDecision move order d → IsOrderDecision move order e → d ≡ e
one_order_decision (safe _) (safe _) = refl
one_order_decision (safe seamless) (unsafe _ _ none _) = absurd (none seamless)
one_order_decision (unsafe _ _ none _) (safe seamless) = absurd (none seamless)
one_order_decision (unsafe _ fault _ first) (unsafe _ other _ again) =
    let same = first_fault_unique first again in
    let told : fault ≡ other = told_once fault other same.1 in
    λ i. Unsafe (same.0 i) (told i)

-- and of a wave list
pub one_waves_decision : {move : Migration} {ranks : List ℕ} {d e : Decision} → IsWavesDecision move ranks d → IsWavesDecision move ranks e → d ≡ e
one_waves_decision (safe_waves _) (safe_waves _) = refl
one_waves_decision (safe_waves seamless) (unsafe_wave _ _ none _) = absurd (none seamless)
one_waves_decision (unsafe_wave _ _ none _) (safe_waves seamless) = absurd (none seamless)
one_waves_decision (unsafe_wave _ fault _ first) (unsafe_wave _ other _ again) =
    let same = times_fault_unique first again in
    let told : fault ≡ other = told_once fault other same.1 in
    λ i. UnsafeWave (same.0 i) (told i)

-- and so of an order file
module _ (move : Migration) (order : NamedText) where
  pub one_check_decision : {d e : Decision} → NamesAscend move.net → IsCheckOver move order d → IsCheckOver move order e → d ≡ e
  one_check_decision ascending (faulty_order n k one) (faulty_order m j other) =
      let same = one_faulty_line move.net order.text n m k j one other in λ i. BadOrder order.file (same.0 i) (same.1 i)
  one_check_decision ascending (faulty_order n k least) (of_order ranks _ names _) =
      absurd (no_fault move.net order.text One ranks n k ascending names least.faulty)
  one_check_decision ascending (faulty_order n k least) (of_waves ranks _ names _) =
      absurd (no_fault move.net order.text Two ranks n k ascending names least.faulty)
  one_check_decision ascending (of_order ranks _ names _) (faulty_order n k least) =
      absurd (no_fault move.net order.text One ranks n k ascending names least.faulty)
  one_check_decision ascending (of_waves ranks _ names _) (faulty_order n k least) =
      absurd (no_fault move.net order.text Two ranks n k ascending names least.faulty)
  one_check_decision {e = e} ascending (of_order one _ names is) (of_order other _ again its) =
      let same : one ≡ other = (one_wave_list move.net order.text One One one other ascending names again).1 in
      one_order_decision is (subst (λ ranks. IsOrderDecision move (flat_of ranks) e) (sym same) its)
  one_check_decision {e = e} ascending (of_waves one _ names is) (of_waves other _ again its) =
      let same : one ≡ other = (one_wave_list move.net order.text Two Two one other ascending names again).1 in
      one_waves_decision is (subst (λ ranks. IsWavesDecision move ranks e) (sym same) its)
  one_check_decision ascending (of_order one _ names _) (of_waves other _ again _) =
      absurd (let same = (one_wave_list move.net order.text One Two one other ascending names again).0 in cc)
  one_check_decision ascending (of_waves one _ names _) (of_order other _ again _) =
      absurd (let same = (one_wave_list move.net order.text Two One one other ascending names again).0 in cc)

-- it is of the network's routers
order_tellable : {move : Migration} {order : List ℕ} {d : Decision} → IsOrderDecision move order d → IsTellable move.net d
order_tellable (safe _) = tt
order_tellable {move} {order} (unsafe state fault _ first) = fault_below move (state_of order state) fault first.here

waves_tellable : {move : Migration} {ranks : List ℕ} {d : Decision} → IsWavesDecision move ranks d → IsTellable move.net d
waves_tellable (safe_waves _) = tt
waves_tellable {move} {ranks} (unsafe_wave wave fault _ first) =
    fault_over_below move (IsStateOfWave (length move.net) (router_times move.start ranks) wave) fault first.here

pub check_tellable : {move : Migration} {order : NamedText} {d : Decision} → IsCheckOver move order d → IsTellable move.net d
check_tellable (faulty_order _ _ _) = tt
check_tellable (of_order _ _ _ is) = order_tellable is
check_tellable (of_waves _ _ _ is) = waves_tellable is
