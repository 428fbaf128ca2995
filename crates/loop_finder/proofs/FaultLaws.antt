-- No fault is told exactly where all is sound.
use Rattle.std.proofs.lemmas.Grind.{common_steps}
use Rattle.std.proofs.Common.{ℕ, ◌+◌, ◌*◌, ◌≤◌, ◌↔◌, List, length, Option, Some, None, IfSome, IfNone, IsNone, refl, sym, arith}
use Rattle.std.proofs.lemmas.Bool.{false≢true}
use Rattle.order_core.specs.Orders.{IsOrder}
use Rattle.order_core.specs.declared.turn.Turn.{Turn}
use Rattle.igp_theory.specs.Loops.{IsFault, IsFirstFault}
use Rattle.igp_theory.specs.Migrations.{Migration}
use Rattle.igp_theory.specs.Phases.{State}
use Rattle.igp_theory.specs.States.{IsSound, IsSeamless}
use Rattle.igp_theory.proofs.FaultLaws.{faulty_not_sound}
use Rattle.loop_finder.specs.Faults.{told_fault}
use Rattle.loop_finder.specs.Orders.{AreFirstStates}
use Rattle.loop_finder.specs.declared.fault.Fault.{Fault}

-- no fault is told exactly of a sound state
pub none_sound : (move : Migration) (state : State) (result : Option Fault) (turns : List Turn) → IfNone result (IsSound move state)
    → IfSome result (λ fault. IsFault move state (told_fault fault turns)) → IsNone result ↔ IsSound move state
none_sound move state result turns sound fault = grind (arith, common_steps, false≢true, faulty_not_sound)

-- no fault is told exactly of a seamless order
pub none_seamless : (move : Migration) (order : List ℕ) (result : Option (ℕ × Fault)) (turns : List Turn) → IsOrder (length move.net) order
    → IfNone result (AreFirstStates (IsSound move) order (2 * length order + 1)) → IfSome result (λ found. found.0 ≤ 2 * length order)
    → IfSome result (λ found. IsFirstFault move order found.0 (told_fault found.1 turns)) → IsNone result ↔ IsSeamless move order
none_seamless move order None turns is sound within fault =
    (λ none. record { lists = is; sound = λ k most. sound k (omega (arith, most)) }, λ seamless. refl)
none_seamless move order (Some found) turns is sound within fault =
    (λ none. absurd (false≢true (sym none)), λ seamless. absurd (faulty_not_sound fault.here (seamless.sound found.0 within)))
