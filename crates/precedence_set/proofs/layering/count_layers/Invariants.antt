use Rattle.std.proofs.Common.{◌≡◌, take}
use Rattle.order_core.specs.Rankings.{wave_count}
use Rattle.precedence_set.proofs.layering.count_layers.Given as goal

abbrev pub invariant-loop-layer : goal.invariant-loop-layer
invariant-loop-layer l = l.count ≡ wave_count (take l.layer-index l.layers)
