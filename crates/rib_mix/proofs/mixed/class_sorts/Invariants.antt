use Rattle.std.proofs.Common.{◌≡◌, map, take}
use Rattle.rib_mix.specs.steps.Sorts.{sort_at}
use Rattle.rib_mix.proofs.mixed.class_sorts.Given as goal

abbrev pub invariant-loop-top : goal.invariant-loop-top
invariant-loop-top l = l.classes.items ≡ map (sort_at l.of_places) (take l.top-index l.tops)
