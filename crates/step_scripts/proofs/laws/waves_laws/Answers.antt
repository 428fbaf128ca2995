use Rattle.step_scripts.proofs.TextFacts.{lists_read_back, waves_read_back}
use Rattle.step_scripts.proofs.WaveFileLaws.{one_wave_list, no_fault, one_refusal}
use Rattle.step_scripts.proofs.laws.waves_laws.Goals as goal

pub returns : goal.returns
returns c = record { one_wave_list = one_wave_list; waves_or_refusal = no_fault; one_refusal = one_refusal; read_back = waves_read_back; lists_read_back = lists_read_back }
