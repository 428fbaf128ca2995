use Rattle.igp_theory.proofs.SameTables.{same_tables_sym, uses_over, steps_over, sound_over, seamless_over, loop_over, arises_over, fault_over}
use Rattle.igp_theory.proofs.SameTables.{first_fault_over}
use Rattle.igp_theory.proofs.same_table_laws.same_tables_act_alike.Goals as goal

pub returns : goal.returns
returns g c = record {
  used = λ u a phase used same within. (uses_over same within, uses_over (same_tables_sym same) within);
  steps = λ u a h phase same. (steps_over same, steps_over (same_tables_sym same));
  sound = λ state same. (sound_over same, sound_over (same_tables_sym same));
  seamless = λ order same. (seamless_over same, seamless_over (same_tables_sym same));
  loops = λ a ring same. (loop_over same, loop_over (same_tables_sym same));
  arising = λ state a ring same. (arises_over state a ring same, arises_over state a ring (same_tables_sym same));
  faults = λ state fault same. (fault_over same, fault_over (same_tables_sym same));
  first_faults = λ order k fault same. (first_fault_over same, first_fault_over (same_tables_sym same));
}
