use Rattle.igp_theory.proofs.SameTables.{same_tables_sym}
use Rattle.igp_theory.proofs.WaveFaultLaws.{delivers_over, seamless_waves_over, fault_over_tables, times_fault_over}
use Rattle.igp_theory.proofs.wave_fault_laws.same_tables_have_same_waves.Goals as goal

pub returns : goal.returns
returns g c = record {
  deliveries = λ state a p same. (delivers_over same, delivers_over (same_tables_sym same));
  seamless = λ ranks same. (seamless_waves_over same, seamless_waves_over (same_tables_sym same));
  faults = λ fault same. (fault_over_tables same, fault_over_tables (same_tables_sym same));
  times_faults = λ time w fault same. (times_fault_over same, times_fault_over (same_tables_sym same));
}
