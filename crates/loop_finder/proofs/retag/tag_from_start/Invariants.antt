use Rattle.std.proofs.Common.{◌≡◌, ℕ, ◌<◌, ◌≤◌, length, get_or}
use Rattle.std.specs.Vec.{vec_capacity}
use Rattle.igp_theory.specs.Loops.{IsTag}
use Rattle.igp_theory.specs.Migrations.{started}
use Rattle.order_core.specs.Turns.{routers_of}
use Rattle.order_core.specs.declared.turn.Turn.{Turn}
use Rattle.rib_mix.specs.Mixture.{migration_of}
use Rattle.igp_theory.specs.Phases.{state_in}
use Rattle.loop_finder.specs.steps.Rings.{next_in}
use Rattle.loop_finder.proofs.retag.tag_from_start.Given as goal

abbrev pub invariant-loop-place : goal.invariant-loop-place
invariant-loop-place g l = record {
  routers : routers_of l.ring.items ≡ routers_of l.fn.ring.items;
  tags : (d : Turn) (k : ℕ) → k < l.place →
      IsTag (started (state_in l.start) (migration_of g.O.RouteSource.table g.N.RouteSource.table l.mixed)) l.address (get_or l.ring.items k d)
      (next_in (routers_of l.fn.ring.items) k);
  capacity : vec_capacity l.fn.ring ≤ vec_capacity l.ring;
  many : length l.ring.items ≡ length l.fn.ring.items;
}
