use Rattle.std.proofs.Common.{ℕ, ◌<◌, get_or}
use Rattle.loop_finder.specs.steps.Cuts.{IsCut}
use Rattle.loop_finder.proofs.cut_check.are_cut.Given as goal

abbrev pub invariant-loop-hop : goal.invariant-loop-hop
invariant-loop-hop l = (k : ℕ) → k < l.hop-index → IsCut l.layers l.router l.kept (get_or l.hops k 0)
