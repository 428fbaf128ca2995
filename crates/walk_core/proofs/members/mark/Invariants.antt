use Rattle.std.proofs.Common.{◌≡◌, ℕ, ◌<◌, false, get_or, length, true}
use Rattle.walk_core.specs.declared.segment.Port.{Port}
use Rattle.walk_core.proofs.members.mark.Given as goal

-- the vertices of the ports so far are marked
abbrev pub invariant-loop-place : goal.invariant-loop-place
invariant-loop-place l = record {
  long : length l.marks.items ≡ length l.initial.marks.items;
  kept : (v : ℕ) → get_or l.initial.marks.items v false ≡ true → get_or l.marks.items v false ≡ true;
  each : (k : ℕ) (none : Port) → k < l.place → get_or l.marks.items (get_or l.ports k none).vertex false ≡ true;
}
