use Rattle.std.proofs.Common.{◌≡◌, ℕ, [], ◌<◌, ◌≤◌, length, get_or}
use Rattle.walk_core.specs.steps.Rows.{IsDistanceRow}
use Rattle.walk_core.specs.Reach.{AreWalksBelow}
use Rattle.walk_core.specs.steps.Ascending.{AreAscending}
use Rattle.walk_core.specs.Segments.{SendsAcross}
use Rattle.walk_core.specs.steps.FirstHops.{ListFirstHops}
use Rattle.walk_core.proofs.segment_graph.SegmentGraph.joined.Given as goal

-- the walks so far, and what the others are made of
abbrev pub invariant-loop-root : goal.invariant-loop-root
invariant-loop-root l = record {
  walks : AreWalksBelow (SendsAcross l.self.segments) l.self.count l.root l.all.items;
  long : length l.rows.items ≡ l.self.count;
  many : length l.lists.items ≡ l.self.count;
  rows : (u : ℕ) → l.root ≤ u → u < l.self.count → IsDistanceRow (SendsAcross l.self.segments) l.self.count u (get_or l.rows.items u []);
  exact : (u : ℕ) → l.root ≤ u → u < l.self.count → ListFirstHops (SendsAcross l.self.segments) u (get_or l.lists.items u []);
  ascending : (u : ℕ) → l.root ≤ u → u < l.self.count → AreAscending (get_or l.lists.items u []);
}
