use Rattle.std.proofs.Common.{◌≡◌, ◌≤◌, length}
use Rattle.route_core.specs.Rows.{kept_in, rows_below}
use Rattle.route_core.proofs.table.row_at.Given as goal

abbrev pub invariant-loop-place : goal.invariant-loop-place
invariant-loop-place l = record {
  before : l.before ≡ length (rows_below (kept_in l.parts) l.place);
  few : l.before ≤ l.place;
  earlier : l.before ≤ l.i;
}
