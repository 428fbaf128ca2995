use Rattle.std.proofs.Common.{◌≡◌, ◌+◌, ◌<◌, ℕ, Some, length, sym, subst, arith, IsTrue, ◌↔◌, cond, set}
use Rattle.walk_core.specs.Distances.{distance_at}
use Rattle.walk_core.specs.steps.Relaxing.{weight_of}
use Rattle.walk_core.proofs.RelaxLaws.{IsRelaxed, relaxed, relaxes_on, tight_more}
use Rattle.walk_core.proofs.relax.relax_from.Goals as goal

pub loop-i-preserved : goal.loop-i-preserved
loop-i-preserved g c =
    let laws = g.met.G.CostGraph in
    let arc = g.G.CostGraph.has_arc c.args.graph.now in
    let ends = g.G.CostGraph.arc_at c.args.graph.now c.args.u in
    let before = c.loop-i.invariant in
    let now = c.loop-i.distances in
    let after = c.relax-fell.new.distances in
    let e : c.arc-v.result ≡ ends c.loop-i.i = c.arc-v.ensures in
    let cost : c.from.result ≡ c.arc-v.result.1 = c.from.ensures in
    let index : c.loop-i.i < g.G.CostGraph.arc_count c.args.graph.now c.args.u = omega (arith, c.arcs-i-end.ensures) in
    let listed = laws.counted_is_arc c.args.graph.now c.args.u c.loop-i.i c.requires.vertex index in
    let over : arc c.args.u c.arc-v.result.0 c.arc-v.result.1 =
    let P : ℕ × ℕ → Type 0 = λ p. arc c.args.u p.0 p.1 in
    subst P (sym e) listed in
    let end : c.arc-v.result.0 < length now = omega (
      arith,
      laws.end_is_vertex c.args.graph.now c.args.u c.arc-v.result.0 c.arc-v.result.1 c.requires.vertex
          over,
    ) in
    let falls : IsTrue c.relax-fell.result ↔ (c.in-Some.near + c.arc-v.result.1 < weight_of (distance_at now c.arc-v.result.0)) =
    rw cost at c.relax-fell.ensures.falls in
    let is : after ≡ cond c.relax-fell.result (set now c.arc-v.result.0 (Some (c.in-Some.near + c.arc-v.result.1))) now =
    rw cost at c.relax-fell.ensures.after in
    let step : IsRelaxed arc now after c.args.u (ends c.loop-i.i).0 (ends c.loop-i.i).1 c.in-Some.near c.relax-fell.result =
    let P : ℕ × ℕ → Type 0 = λ p. IsRelaxed arc now after c.args.u p.0 p.1 c.in-Some.near c.relax-fell.result in
    subst P e (relaxed arc now after c.args.u c.arc-v.result.0 c.arc-v.result.1 c.in-Some.near c.relax-fell.result
    before.relaxes.room over (omega arith) end before.near_is falls is) in
    record {
      relaxes = relaxes_on c.loop-i.fell c.relax-fell.result before.relaxes step.relaxes;
      near_is = step.near_is;
      tight = tight_more arc ends now after c.args.u c.in-Some.near c.loop-i.i c.loop-i.fell c.relax-fell.result before.tight step;
    }
