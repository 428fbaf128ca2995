use Rattle.std.proofs.lemmas.Grind.{common_steps}
use Rattle.std.proofs.Common.{ℕ, ◌<◌, length, get_or, arith}
use Rattle.std.proofs.lemmas.List.{take_more}
use Rattle.std.proofs.lemmas.List.Elements.{Contains-get_or}
use Rattle.order_core.specs.Rankings.{wave_count}
use Rattle.order_core.proofs.WaveLists.{rank_below_count, count_le_length, wave_count-push}
use Rattle.precedence_set.proofs.layering.count_layers.Goals as goal

pub overflow_add-layer : goal.overflow_add-layer
overflow_add-layer c =
    let rank : ℕ = get_or c.args.layers.now c.loop-layer.layer-index 0 in
    let below : rank < wave_count c.args.layers.now =
    rank_below_count c.args.layers.now rank (Contains-get_or c.args.layers.now c.loop-layer.layer-index 0 c.loop-layer-test.true) in
    omega (arith, below, count_le_length (length c.args.layers.now) c.args.layers.now c.requires.ranking, c.requires.small)

pub loop-layer-preserved : goal.loop-layer-preserved
loop-layer-preserved c = grind (arith, common_steps, take_more, wave_count-push)
