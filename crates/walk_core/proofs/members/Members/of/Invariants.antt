use Rattle.std.proofs.Common.{◌≡◌, ◌≤◌}
use Rattle.walk_core.specs.steps.Members.{PlacesFit, HaveMarked}
use Rattle.walk_core.proofs.members.Members.of.Given as goal

-- the vertices so far are numbered
abbrev pub invariant-loop-vertex : goal.invariant-loop-vertex
invariant-loop-vertex l = record {
  numbered : PlacesFit l.members;
  marked : HaveMarked l.marks.items l.vertex l.members;
  end : l.members.end ≤ l.vertex;
  count : l.members.count ≡ l.count;
}
