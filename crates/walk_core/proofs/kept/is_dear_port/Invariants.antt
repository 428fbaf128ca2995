use Rattle.std.proofs.Common.{ℕ, ◌<◌, get_or}
use Rattle.walk_core.specs.declared.segment.Port.{Port}
use Rattle.walk_core.specs.steps.Kept.{IsDearTo}
use Rattle.walk_core.proofs.kept.is_dear_port.Given as goal

abbrev pub invariant-loop-far : goal.invariant-loop-far
invariant-loop-far l = (k : ℕ) (d : Port) → k < l.far-index → IsDearTo l.walks l.near (get_or l.ports k d)
