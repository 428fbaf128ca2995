use Rattle.std.proofs.Common.{◌≡◌, ◌+◌, length}
use Rattle.loop_finder.specs.Mixes.{mix_of}
use Rattle.loop_finder.specs.Orders.{AreFirstStates}
use Rattle.loop_finder.specs.Soundness.{Sound}
use Rattle.loop_finder.specs.Works.{IsWork}
use Rattle.loop_finder.specs.steps.Orders.{IsOrderState}
use Rattle.loop_finder.proofs.order_fault.order_fault.Given as goal

abbrev pub invariant-loop-k : goal.invariant-loop-k
invariant-loop-k g l = record {
  state : IsOrderState l.work.first.items l.order l.k;
  sound : AreFirstStates (Sound (mix_of g.O.RouteSource.table g.N.RouteSource.table l.subject.mixed.now)) l.order (l.k + 1);
  work : IsWork (length l.subject.mixed.now.net) l.work;
  ring : l.work.room.ring.items ≡ l.fn.work.room.ring.items;
}
