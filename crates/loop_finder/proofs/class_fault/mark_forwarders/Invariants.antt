use Rattle.std.proofs.Common.{ℕ, ◌<◌, ◌↔◌}
use Rattle.net_model.specs.Network.{Connected}
use Rattle.order_core.specs.Marks.{IsMarked}
use Rattle.loop_finder.proofs.class_fault.mark_forwarders.Given as goal

abbrev pub invariant-loop-router : goal.invariant-loop-router
invariant-loop-router g l = (u : ℕ) → u < l.router → IsMarked l.forwards u ↔ (¬ Connected l.mixed.net u l.target)
