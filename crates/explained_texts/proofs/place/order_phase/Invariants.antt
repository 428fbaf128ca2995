use Rattle.std.proofs.Common.{◌≡◌, ◌≤◌, take}
use Rattle.igp_theory.specs.States.{changes_of, changes_on}
use Rattle.explained_texts.proofs.place.order_phase.Given as goal

abbrev pub invariant-loop-change : goal.invariant-loop-change
invariant-loop-change l = record {
  few : l.made ≤ l.change;
  made : l.made ≡ changes_on l.router (take l.change (changes_of l.order));
}
