use Rattle.std.proofs.Common.{◌≡◌, ℕ, ◌<◌, ap, sym, subst, arith}
use Rattle.walk_core.specs.declared.hops.Departure.{Departure}
use Rattle.walk_core.proofs.DepartureLaws.{departs_more, leaves_more}
use Rattle.walk_core.proofs.hops.departures_from.Goals as goal

pub loop-i-preserved : goal.loop-i-preserved
loop-i-preserved g c =
    let d : Departure = record { to = c.arc-to.result.0; cost = c.arc-to.result.1 } in
    let arc = g.G.CostGraph.has_arc c.args.graph.now in
    let ends = g.G.CostGraph.arc_at c.args.graph.now c.args.root in
    let before = c.loop-i.invariant in
    let laws = g.met.G.CostGraph in
    let index : c.loop-i.i < g.G.CostGraph.arc_count c.args.graph.now c.args.root = omega (arith, c.arcs-i-end.ensures) in
    let e : c.arc-to.result ≡ ends c.loop-i.i = c.arc-to.ensures in
    let over : arc c.args.root c.arc-to.result.0 c.arc-to.result.1 =
    let P : ℕ × ℕ → Type 0 = λ p. arc c.args.root p.0 p.1 in
    subst P (sym e) (laws.counted_is_arc c.args.graph.now c.args.root c.loop-i.i c.requires index) in
    rw c.in_ok-push.ensures.items (record {
      each = departs_more arc c.args.root c.loop-i.departures.items d before.each over;
      every = leaves_more ends c.loop-i.departures.items d c.loop-i.i before.every
          (ap (λ (p : ℕ × ℕ). p.0) e) (ap (λ (p : ℕ × ℕ). p.1) e);
    })
