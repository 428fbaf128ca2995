use Rattle.std.proofs.Common.{ℕ, ◌<◌, Contains}
use Rattle.step_scripts.specs.WaveFiles.{wave_at}
use Rattle.step_scripts.proofs.seats.Seats.wave_among.Given as goal

abbrev pub invariant-loop-wave : goal.invariant-loop-wave
invariant-loop-wave l = (w : ℕ) → w < l.wave → Contains (wave_at l.self w) l.router → ⊥
