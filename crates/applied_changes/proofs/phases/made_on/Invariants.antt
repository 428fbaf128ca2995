use Rattle.std.proofs.Common.{◌≡◌, ◌≤◌, ◌+◌, drop, take}
use Rattle.igp_theory.specs.States.{changes_of, changes_on}
use Rattle.applied_changes.proofs.phases.made_on.Given as goal

abbrev pub invariant-loop-next : goal.invariant-loop-next
invariant-loop-next l = record {
  within : l.made + l.left ≤ l.changes;
  made : l.made + changes_on l.router (take l.left (changes_of (drop l.next-index l.order))) ≡ changes_on l.router (take l.changes (changes_of l.order));
}
