use Rattle.std.proofs.Common.{◌≡◌, ℕ, length, slice_get, Some}
use Rattle.rib_mix.specs.steps.Earlier.{AreFirstClasses, IsEarlierPlain}
use Rattle.rib_mix.proofs.earlier.earlier_classes.Given as goal

abbrev pub invariant-loop-atom : goal.invariant-loop-atom
invariant-loop-atom l = record {
  firsts : AreFirstClasses l.atoms l.sorts.of_places.items l.atom l.firsts.items;
  count : length l.earlier.items ≡ l.atom;
  each : (k other : ℕ) → slice_get l.earlier.items k ≡ Some (Some other) → IsEarlierPlain l.atoms l.sorts.of_places.items k other;
}
