use Rattle.std.proofs.Common.{◌≡◌, ℕ, ◌<◌, ◌≤◌, true, false, length, get_or}
use Rattle.walk_core.specs.steps.Kept.{AllUnused}
use Rattle.walk_core.specs.steps.SegmentWalks.{reach_at}
use Rattle.walk_core.proofs.kept.kept_roots.Given as goal

-- of each root before it is known whether its walks are kept
abbrev pub invariant-loop-walks : goal.invariant-loop-walks
invariant-loop-walks l = record {
  long : length l.roots.items ≡ l.walks-index;
  each : (u : ℕ) → u < l.walks-index → get_or l.roots.items u false ≡ true →
      (length (reach_at l.known.walks.now u).distances ≤ l.count) × AllUnused l.known.segments.now l.lost (reach_at l.known.walks.now u);
}
