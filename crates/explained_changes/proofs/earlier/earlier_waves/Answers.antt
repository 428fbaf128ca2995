use Rattle.std.proofs.Common.{◌-◌, arith}
use Rattle.std.proofs.lemmas.List.{length-set}
use Rattle.order_core.specs.Rankings.{rank_of}
use Rattle.explained_waves.specs.Reasons.{one_earlier}
use Rattle.explained_changes.proofs.ChangeTimes.{changes_more, changes_times, two_waves}
use Rattle.explained_changes.proofs.earlier.earlier_waves.Goals as goal

pub loop-router-preserved : goal.loop-router-preserved
loop-router-preserved c =
    let some = one_earlier c.args.ranks.now c.args.earlier in
    let u = c.loop-router.router in
    let first = c.earlier_wave-first.result in
    let second = c.earlier_wave-second.result in
    changes_more c.loop-router.times some u (record { first = first; second = second })
    (omega (arith, c.loop-router-test.true, c.loop-router.auto.times))
    (two_waves some u first second c.earlier_wave-first.ensures c.earlier_wave-second.ensures) c.loop-router.invariant

pub returns : goal.returns
returns c =
    let ranks = c.args.ranks.now in
    let i = c.args.earlier in
    let long = length-set ranks i (rank_of ranks i - 1) in
    changes_times c.loop-router.times (one_earlier ranks i) (omega (arith, c.loop-router.auto.times, c.requires.many, long))
    (λ u within. c.loop-router.invariant u (omega (arith, within, c.loop-router.auto.times, c.loop-router-test.false)))
