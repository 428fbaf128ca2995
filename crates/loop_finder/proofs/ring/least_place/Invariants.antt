use Rattle.std.proofs.Common.{ℕ, ◌<◌, ◌≤◌, length, get_or}
use Rattle.loop_finder.proofs.ring.least_place.Given as goal

abbrev pub invariant-loop-place : goal.invariant-loop-place
invariant-loop-place l = record {
  within : l.least < length l.routers;
  lowest : (k : ℕ) → k < l.place → get_or l.routers l.least 0 ≤ get_or l.routers k 0;
}
