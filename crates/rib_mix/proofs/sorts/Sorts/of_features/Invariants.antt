use Rattle.rib_mix.specs.steps.Sorts.{AreSorts}
use Rattle.rib_mix.specs.steps.Features.{HaveSameFeatures}
use Rattle.rib_mix.proofs.sorts.Sorts.of_features.Given as goal

abbrev pub invariant-loop-place : goal.invariant-loop-place
invariant-loop-place l = AreSorts (HaveSameFeatures l.features) l.parents l.place l.sorts
