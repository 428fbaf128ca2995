use Rattle.std.proofs.lemmas.Grind.{common_steps}
use Rattle.std.proofs.Common.{arith}
use Rattle.walk_core.proofs.MemberSteps.{along_more, place_at_most}
use Rattle.walk_core.proofs.rows.Distances.spread.Goals as goal

pub overflow_cast-place : goal.overflow_cast-place
overflow_cast-place c =
    let most = place_at_most c.args.vertices.now c.args.end c.requires c.loop-place.place c.loop-place-test.true in
    omega (arith, most, c.requires.within c.loop-place.place c.loop-place-test.true, c.ranges.end.fits)

pub loop-place-preserved : goal.loop-place-preserved
loop-place-preserved c = grind (arith, common_steps, along_more)
