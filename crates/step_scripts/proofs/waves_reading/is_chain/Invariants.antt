use Rattle.std.proofs.Common.{ℕ, ◌<◌, [], map, get_or}
use Rattle.step_scripts.specs.steps.ReadWaves.{NamesOneOf}
use Rattle.step_scripts.specs.WaveFiles.{wave_at}
use Rattle.step_scripts.proofs.waves_reading.is_chain.Given as goal

abbrev pub invariant-loop-place : goal.invariant-loop-place
invariant-loop-place l = (k : ℕ) → k < l.place → NamesOneOf l.net (wave_at l.seats k) (get_or (map (λ name. name.now) l.names) k [])
