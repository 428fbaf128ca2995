use Rattle.std.proofs.Common.{◌≡◌, take}
use Rattle.order_core.specs.Rankings.{wave_count}
use Rattle.order_core.proofs.waves.count_waves.Given as goal

abbrev pub invariant-loop-rank : goal.invariant-loop-rank
invariant-loop-rank l = l.count ≡ wave_count (take l.rank-index l.ranks)
