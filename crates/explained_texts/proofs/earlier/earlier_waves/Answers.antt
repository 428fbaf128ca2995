use Rattle.std.proofs.Common.{◌∙◌, ◌-◌, arith, sym}
use Rattle.std.proofs.lemmas.List.{length-set}
use Rattle.order_core.specs.Rankings.{rank_of}
use Rattle.explained_waves.specs.Reasons.{one_earlier}
use Rattle.explained_texts.proofs.EarlierTimes.{ranked_more, ranked_times}
use Rattle.explained_texts.proofs.earlier.earlier_waves.Goals as goal

pub loop-router-preserved : goal.loop-router-preserved
loop-router-preserved c =
    ranked_more c.loop-router.times (one_earlier c.args.ranks.now c.args.earlier) c.loop-router.router c.earlier_wave-wave.result
    (omega (arith, c.loop-router-test.true, c.loop-router.auto.times, c.requires.many)) c.earlier_wave-wave.ensures
    c.loop-router.invariant

pub returns : goal.returns
returns c =
    let ranks = c.args.ranks.now in
    let v = c.args.earlier in
    let long = length-set ranks v (rank_of ranks v - 1) in
    ranked_times c.loop-router.times (one_earlier ranks v) (c.loop-router.auto.times ∙ c.requires.many ∙ sym long)
    (λ u within. c.loop-router.invariant u (omega (arith, within, long, c.loop-router-test.false)))
