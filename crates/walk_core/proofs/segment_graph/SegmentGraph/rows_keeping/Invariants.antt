use Rattle.walk_core.specs.Segments.{SendsAcross}
use Rattle.walk_core.specs.steps.Floods.{IsRoom}
use Rattle.walk_core.specs.steps.Rows.{AreDistanceRows}
use Rattle.walk_core.proofs.segment_graph.SegmentGraph.rows_keeping.Given as goal

abbrev pub invariant-loop-root : goal.invariant-loop-root
invariant-loop-root l = record {
  rows : AreDistanceRows (SendsAcross l.self.segments) l.self.count l.root l.rows.items;
  room : IsRoom l.self l.flood;
}
