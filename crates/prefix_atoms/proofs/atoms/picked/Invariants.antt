use Rattle.std.proofs.Common.{◌≡◌, ℕ, ◌<◌, length, get_or}
use Rattle.prefix_atoms.proofs.atoms.picked.Given as goal

abbrev pub invariant-loop-place : goal.invariant-loop-place
invariant-loop-place l = record {
  count : length l.picked.items ≡ l.place-index;
  each : (k : ℕ) → k < l.place-index → get_or l.picked.items k 0 ≡ get_or l.numbers (get_or l.places k 0) 0;
}
