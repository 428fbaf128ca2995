use Rattle.std.proofs.Common.{◌≡◌, length}
use Rattle.prefix_atoms.specs.Nested.{AreParents}
use Rattle.prefix_atoms.proofs.parents.parents_of.Given as goal

abbrev pub invariant-loop-place : goal.invariant-loop-place
invariant-loop-place l = record {
  count : length l.parents.items ≡ l.place;
  known : AreParents l.prefixes l.parents.items;
}
