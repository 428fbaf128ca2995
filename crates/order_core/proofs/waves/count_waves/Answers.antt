use Rattle.std.proofs.lemmas.Grind.{common_steps}
use Rattle.std.proofs.Common.{ℕ, ◌<◌, length, get_or, arith}
use Rattle.std.proofs.lemmas.List.{take_more}
use Rattle.std.proofs.lemmas.List.Elements.{Contains-get_or}
use Rattle.order_core.specs.Rankings.{wave_count}
use Rattle.order_core.proofs.WaveLists.{rank_below_count, count_le_length, wave_count-push}
use Rattle.order_core.proofs.waves.count_waves.Goals as goal

pub overflow_add-rank : goal.overflow_add-rank
overflow_add-rank c =
    let rank : ℕ = get_or c.args.ranks.now c.loop-rank.rank-index 0 in
    let below : rank < wave_count c.args.ranks.now = rank_below_count c.args.ranks.now rank
    (Contains-get_or c.args.ranks.now c.loop-rank.rank-index 0 c.loop-rank-test.true) in
    omega (arith, below, count_le_length (length c.args.ranks.now) c.args.ranks.now c.requires.ranking, c.requires.few)

pub loop-rank-preserved : goal.loop-rank-preserved
loop-rank-preserved c = grind (arith, common_steps, take_more, wave_count-push)
