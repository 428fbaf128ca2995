use Rattle.std.proofs.lemmas.Grind.{common_steps}
use Rattle.std.proofs.Common.{arith}
use Rattle.rib_mix.proofs.SortSteps.{no_sorts}
use Rattle.rib_mix.proofs.sorts.Sorts.of_features.Goals as goal

pub loop-place-init : goal.loop-place-init
loop-place-init c = grind (arith, common_steps, no_sorts)

pub add-requires-clause-next : goal.add-requires-clause-next
add-requires-clause-next c = omega (arith, c.loop-place.invariant.count, c.loop-place-test.true)

pub add-requires-clause-sorts : goal.add-requires-clause-sorts
add-requires-clause-sorts c = grind (arith, common_steps)

pub loop-place-preserved : goal.loop-place-preserved
loop-place-preserved c = grind (arith, common_steps)

pub returns : goal.returns
returns c = grind (arith, common_steps)
