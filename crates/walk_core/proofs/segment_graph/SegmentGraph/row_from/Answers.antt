use Rattle.std.proofs.Common.{ℕ, List, Option, subst, sym}
use Rattle.walk_core.specs.Segments.{SendsAcross}
use Rattle.walk_core.specs.steps.Rows.{IsDistanceRow}
use Rattle.walk_core.proofs.RowLaws.{row_of_lone}
use Rattle.walk_core.proofs.segment_graph.SegmentGraph.row_from.Goals as goal

pub returns-then-is_lone-clause-row : goal.returns-then-is_lone-clause-row
returns-then-is_lone-clause-row c =
    subst (λ (l : List (Option ℕ)). IsDistanceRow (SendsAcross c.args.self.now.segments) c.args.self.now.count c.args.root l)
    (sym c.of_lone.ensures)
    (row_of_lone c.args.self.now.segments c.args.self.now.count c.args.root c.ports.result.now c.requires.root c.ports.ensures.joined.segments
    c.ports.ensures.ports (c.is_lone.ensures.0 c.if-is_lone.true))
