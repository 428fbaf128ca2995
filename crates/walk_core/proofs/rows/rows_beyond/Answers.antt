use Rattle.std.proofs.Common.{◌≡◌, ℕ, ◌<◌, List, Option, length, length-set, arith, ap, sym, subst, ◌∙◌}
use Rattle.walk_core.proofs.ReachLaws.{known_more}
use Rattle.walk_core.proofs.rows.rows_beyond.Goals as goal

pub loop-i-preserved : goal.loop-i-preserved
loop-i-preserved g c =
    let arc = g.G.CostGraph.has_arc c.args.graph.now in
    let laws = g.met.G.CostGraph in
    let ends = g.G.CostGraph.arc_at c.args.graph.now c.args.root in
    let rows = c.loop-i.rows.items in
    let to : ℕ = c.arc-to.result.0 in
    let row : List (Option ℕ) = c.in_ok-rows-2.field-0 in
    let e : c.arc-to.result ≡ ends c.loop-i.i = c.arc-to.ensures in
    let index : c.loop-i.i < g.G.CostGraph.arc_count c.args.graph.now c.args.root = omega (arith, c.arcs-i-end.ensures) in
    let over : arc c.args.root to c.arc-to.result.1 =
    let P : ℕ × ℕ → Type 0 = λ p. arc c.args.root p.0 p.1 in
    subst P (sym e) (laws.counted_is_arc c.args.graph.now c.args.root c.loop-i.i c.requires index) in
    let within : to < length rows =
    omega (arith, c.loop-i.invariant.long, laws.end_is_vertex c.args.graph.now c.args.root to c.arc-to.result.1 c.requires over) in
    record {
      long = length-set rows to row ∙ c.loop-i.invariant.long;
      known = known_more arc ends rows c.loop-i.i to row within (ap (λ (p : ℕ × ℕ). p.0) e) c.loop-i.invariant.known c.in_ok-rows-2.ensures.least;
    }
