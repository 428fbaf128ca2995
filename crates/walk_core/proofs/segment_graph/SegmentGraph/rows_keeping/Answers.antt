use Rattle.std.proofs.Common.{◌≡◌, ℕ, List, [], Option, ◌+◌, ◌++◌, ◌∷◌, length-append, sym, subst, arith}
use Rattle.walk_core.specs.Segments.{SendsAcross}
use Rattle.walk_core.specs.Walks.{Arcs}
use Rattle.walk_core.specs.declared.flood.Flood.{Flood}
use Rattle.walk_core.specs.steps.Floods.{IsRoom}
use Rattle.walk_core.specs.steps.Rows.{AreDistanceRows, IsDistanceRow}
use Rattle.walk_core.proofs.KeptLaws.{row_kept}
use Rattle.walk_core.proofs.ReachLaws.{each_at_more}
use Rattle.walk_core.proofs.segment_graph.SegmentGraph.rows_keeping.Goals.{in-Some+in_ok-row-in-Some, in-None+in_ok-row-in-None}
use Rattle.walk_core.proofs.segment_graph.SegmentGraph.rows_keeping.Goals as goal

-- a row more
more : (arc : Arcs) (count root : ℕ) (rows after : List (List (Option ℕ))) (row : List (Option ℕ)) → AreDistanceRows arc count root rows →
    IsDistanceRow arc count root row → after ≡ rows ++ row ∷ [] → AreDistanceRows arc count (root + 1) after
more arc count root rows after row before is same = subst (λ (l : List (List (Option ℕ))). AreDistanceRows arc count (root + 1) l) (sym same) (record {
  long = omega (arith, length-append rows (row ∷ []), before.long);
  each = each_at_more [] (IsDistanceRow arc count) rows root row before.long before.each is;
})

pub loop-root-preserved : goal.loop-root-preserved
loop-root-preserved c =
    let arc : Arcs = SendsAcross c.args.self.now.segments in
    let count : ℕ = c.args.self.now.count in
    let root : ℕ = c.loop-root.root in
    let before = c.loop-root.invariant in
    elim c.match-walks_from.branch [
      | in-Some+in_ok-row-in-Some w ↦ record {
        rows = more arc count root c.loop-root.rows.items c.push.new.self.items c.match-walks_from.row before.rows
            (subst (λ (l : List (Option ℕ)). IsDistanceRow arc count root l) (sym w.row-is)
            (row_kept arc count root c.args.kept.roots.now c.args.kept.walks.now w.in-Some.walks.now c.requires w.in-Some.ensures.root
            w.in-Some.ensures.walks w.in_ok-row-in-Some.row w.in_ok-row-in-Some.ensures))
            c.in_ok-push.ensures.items;
        room = subst (λ (f : Flood). IsRoom c.args.self.now f) (sym w.flood-is) before.room;
      }
      | in-None+in_ok-row-in-None w ↦ record {
        rows = more arc count root c.loop-root.rows.items c.push.new.self.items c.match-walks_from.row before.rows
            (subst (λ (l : List (Option ℕ)). IsDistanceRow arc count root l) (sym w.row-is) w.in_ok-row-in-None.ensures.row)
            c.in_ok-push.ensures.items;
        room = subst (λ (f : Flood). IsRoom c.args.self.now f) (sym w.flood-is) w.in_ok-row-in-None.ensures.room;
      }
    ]
