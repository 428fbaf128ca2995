use Rattle.std.proofs.Common.{◌≡◌, ℕ, ◌+◌, ◌/◌, ◌<◌, length, Contains}
use Rattle.std.specs.Prelude.{slice_index}
use Rattle.order_core.specs.Rankings.{rank_of}
use Rattle.split_waves.proofs.split.seat_cuts.Given as goal

abbrev pub invariant-loop-place : goal.invariant-loop-place
invariant-loop-place l = record {
  count : length l.ranks.items ≡ length l.initial.ranks.items;
  each : (k : ℕ) → k < l.place → rank_of l.ranks.items (slice_index l.routers k) ≡ l.first + k / l.most;
  others : (u : ℕ) → (Contains l.routers u → ⊥) → rank_of l.ranks.items u ≡ rank_of l.initial.ranks.items u;
}
