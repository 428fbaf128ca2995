use Rattle.std.proofs.Common.{◌≡◌, ℕ, ◌<◌, ◌≤◌, length, get_or}
use Rattle.loop_finder.proofs.calm.lower.Given as goal

abbrev pub invariant-loop-place : goal.invariant-loop-place
invariant-loop-place l = record {
  many : length l.before.items ≡ length l.fn.before.items;
  each : (p : ℕ) → get_or l.before.items p 0 ≤ get_or l.fn.before.items p 0;
  these : (j : ℕ) → j < l.place-index → get_or l.before.items (get_or l.places j 0) 0 ≤ l.most;
}
