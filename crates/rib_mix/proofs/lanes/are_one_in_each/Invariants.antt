use Rattle.std.proofs.Common.{ℕ, ◌<◌, get_or}
use Rattle.rib_mix.specs.steps.Features.{IsOneAt}
use Rattle.rib_mix.specs.declared.lanes.Lane.{Lane}
use Rattle.rib_mix.proofs.lanes.are_one_in_each.Given as goal

abbrev pub invariant-loop-lane : goal.invariant-loop-lane
invariant-loop-lane l = (k : ℕ) (d : Lane) → k < l.lane-index → IsOneAt l.one l.other (get_or l.lanes k d)
