use Rattle.std.proofs.Common.{◌≡◌, ◌<◌, ◌≤◌, length, take, vec_len, All}
use Rattle.std.specs.Vec.{vec_capacity}
use Rattle.igp_theory.specs.Migrations.{started}
use Rattle.igp_theory.specs.Phases.{State}
use Rattle.order_core.specs.declared.turn.Turn.{Turn}
use Rattle.plan_theory.specs.Ranked.{size_of}
use Rattle.rib_mix.specs.Mixture.{migration_of}
use Rattle.plan_theory.specs.Numbers.{AreNumbered}
use Rattle.plan_theory.proofs.numbers.number_turns.Given as goal

abbrev pub invariant-loop-turn : goal.invariant-loop-turn
invariant-loop-turn g l = record {
  numbered : (start : State) → AreNumbered l.items (started start (migration_of g.O.RouteSource.table g.N.RouteSource.table l.mixed)) l.address
      (take l.turn-index l.turns) l.numbered.items;
  below : All (λ (turn : Turn). turn.router < size_of l.items (length l.mixed.net)) l.numbered.items;
  count : vec_len l.numbered ≡ l.turn-index;
  room : length l.turns ≤ vec_capacity l.numbered;
  capacity : vec_capacity l.fn.numbered ≤ vec_capacity l.numbered;
}
