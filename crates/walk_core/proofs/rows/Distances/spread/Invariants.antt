use Rattle.std.proofs.Common.{◌≡◌, ◌+◌, ◌++◌, None, length, replicate}
use Rattle.walk_core.specs.steps.Members.{IsSpread, member_at}
use Rattle.walk_core.proofs.rows.Distances.spread.Given as goal

abbrev pub invariant-loop-place : goal.invariant-loop-place
invariant-loop-place l = record {
  spread : IsSpread None l.vertices l.place l.self (replicate (member_at l.vertices 0) None ++ l.all.items);
  long : member_at l.vertices 0 + length l.all.items ≡ l.end;
}
