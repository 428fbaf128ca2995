use Rattle.std.proofs.Common.{◌≡◌, ℕ, ◌+◌, ◌++◌, List, All, length, map, replicate}
use Rattle.walk_core.specs.steps.NumberLists.Numbers.{Nothing}
use Rattle.walk_core.specs.steps.Members.{IsSpread, member_at}
use Rattle.walk_core.specs.steps.NumberLists.{IsLongListKept, renumbered}
use Rattle.walk_core.proofs.number_lists.spread_numbers.Given as goal

abbrev pub invariant-loop-place : goal.invariant-loop-place
invariant-loop-place l = record {
  spread : IsSpread Nothing l.vertices l.place (map (renumbered l.vertices) l.numbers)
      (replicate (member_at l.vertices 0) Nothing ++ l.all.items);
  kept : (long : List (List ℕ)) → All (IsLongListKept long) l.numbers → All (IsLongListKept long) l.all.items;
  long : member_at l.vertices 0 + length l.all.items ≡ l.end;
}
