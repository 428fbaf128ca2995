use Rattle.std.proofs.Common.{take}
use Rattle.step_scripts.specs.steps.ReadWaves.{AreWavesRead, bytes_of_lines}
use Rattle.step_scripts.proofs.waves_reading.seat_waves.Given as goal

abbrev pub invariant-loop-line : goal.invariant-loop-line
invariant-loop-line l = AreWavesRead l.net l.version (take l.line-index (bytes_of_lines l.text l.entries)) l.seats
