use Rattle.std.proofs.Common.{ℕ, ◌<◌, get_or}
use Rattle.walk_core.specs.declared.segment.Port.{Port}
use Rattle.walk_core.specs.steps.Kept.{IsDearPort}
use Rattle.walk_core.proofs.kept.is_unused.Given as goal

abbrev pub invariant-loop-near : goal.invariant-loop-near
invariant-loop-near l = (k : ℕ) (d : Port) → k < l.near-index → IsDearPort l.walks l.ports (get_or l.ports k d)
