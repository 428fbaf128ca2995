use Rattle.std.proofs.Common.{◌≡◌, ◌+◌, ◌≤◌, length, take}
use Rattle.order_search.proofs.assumptions.keep_all.Given as goal

abbrev pub invariant-loop-i : goal.invariant-loop-i
invariant-loop-i l = record {
  routers : l.held.routers ≡ l.initial.held.routers;
  pairs : l.held.pairs ≡ take l.i l.base;
  room : length l.base ≤ l.held.spare + l.i;
}
