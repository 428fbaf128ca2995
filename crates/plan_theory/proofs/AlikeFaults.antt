-- States that give each router of the network one phase have the same fault.
use Rattle.std.proofs.Common.{length, sym, subst}
use Rattle.igp_theory.specs.Forwarding.{HasStep}
use Rattle.igp_theory.specs.Loops.{Fault, IsFault, missing_step, loop_arises}
use Rattle.igp_theory.specs.Migrations.{Migration}
use Rattle.igp_theory.specs.Phases.{State}
use Rattle.igp_theory.specs.declared.phase.Phase.{Phase}
use Rattle.igp_theory.proofs.AlikeStates.{AreAlike, alike_sym, steps_alike, sound_at_alike}
use Rattle.igp_theory.proofs.SameTables.{found_ring_over}

pub fault_alike : {move : Migration} {one other : State} {fault : Fault} → AreAlike (length move.net) one other →
    IsFault move one fault → IsFault move other fault
fault_alike {move} alike (missing_step {a = a} {u = u} address below must lacks lowest) =
    missing_step address (λ b less. sound_at_alike alike (below b less)) must
    (λ has. lacks (subst (λ (phase : Phase). HasStep move u phase a) (sym (alike u must.router)) has))
    (λ v less must_v. subst (λ (phase : Phase). HasStep move v phase a) (alike v must_v.router) (lowest v less must_v))
fault_alike {move} alike (loop_arises {a = a} address below forwards found tags) =
    loop_arises address (λ b less. sound_at_alike alike (below b less))
    (λ v must. subst (λ (phase : Phase). HasStep move v phase a) (alike v must.router) (forwards v must))
    (found_ring_over (λ u h. (steps_alike alike u h, steps_alike (alike_sym alike) u h)) found) tags
