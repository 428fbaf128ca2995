use Rattle.std.proofs.Common.{◌≡◌, ◌≤◌, length}
use Rattle.net_addr.specs.LongestMatches.{IsMatch}
use Rattle.route_core.specs.steps.Matches.{AreBlocks}
use Rattle.route_core.specs.Rows.{kept_in, row_prefixes, rows_below}
use Rattle.route_core.proofs.matches.longest_match.Given as goal

abbrev pub invariant-loop-place : goal.invariant-loop-place
invariant-loop-place l = record {
  best : IsMatch (row_prefixes l.parts.prefixes.now (rows_below (kept_in l.parts) l.place)) l.a l.best;
  blocks : AreBlocks (row_prefixes l.parts.prefixes.now (rows_below (kept_in l.parts) l.place)) l.a;
  before : l.before ≡ length (rows_below (kept_in l.parts) l.place);
  few : l.before ≤ l.place;
}
