use Rattle.std.proofs.Common.{◌≡◌, ◌≤◌, length}
use Rattle.route_core.specs.Rows.{kept_in, rows_below}
use Rattle.route_core.proofs.table.count_rows.Given as goal

abbrev pub invariant-loop-place : goal.invariant-loop-place
invariant-loop-place l = record {
  count : l.count ≡ length (rows_below (kept_in l.parts) l.place);
  few : l.count ≤ l.place;
}
