use Rattle.std.proofs.Common.{◌≡◌, length}
use Rattle.route_tables.specs.steps.Sharing.{AreOverOne}
use Rattle.route_tables.proofs.pool.Pool.over_each.Given as goal

abbrev pub invariant-loop-hop : goal.invariant-loop-hop
invariant-loop-hop l = record {
  single : AreOverOne l.hop l.entries.items;
  count : length l.entries.items ≡ l.hop;
}
