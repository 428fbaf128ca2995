use Rattle.std.proofs.Common.{◌≡◌, ℕ, None, Some, length, get_or}
use Rattle.isis_routes.specs.steps.Alike.{IsEarlierAlike}
use Rattle.isis_routes.proofs.alike.earlier_alike.Given as goal

abbrev pub invariant-loop-place : goal.invariant-loop-place
invariant-loop-place l = record {
  count : length l.all.items ≡ l.place;
  alike : (place earlier : ℕ) → get_or l.all.items place None ≡ Some earlier → IsEarlierAlike l.destinations place earlier;
}
