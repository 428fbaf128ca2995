use Rattle.split_waves.specs.steps.Seats.{AreSplit}
use Rattle.split_waves.proofs.split.split_waves.Given as goal

abbrev pub invariant-loop-wave : goal.invariant-loop-wave
invariant-loop-wave l = AreSplit l.most l.waves l.wave l.count l.ranks.items
