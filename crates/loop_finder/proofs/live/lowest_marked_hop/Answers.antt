use Rattle.std.proofs.Common.{ℕ, Option, subst, sym}
use Rattle.loop_finder.specs.steps.Walks.{LowestMarkedHop}
use Rattle.loop_finder.proofs.LowestHops.{lowest_hop_of}
use Rattle.loop_finder.proofs.live.lowest_marked_hop.Goals as goal

pub returns : goal.returns
returns g c =
    subst (λ (lowest : Option ℕ). LowestMarkedHop (g.G.StepGraph.step c.args.graph.now) c.args.marks.now c.args.router lowest) (sym c.lower_of.ensures)
    (lowest_hop_of (g.G.StepGraph.step c.args.graph.now) c.args.marks.now c.args.router c.hops.result.0.now c.hops.result.1.now c.lowest_marked.result
    c.lowest_marked-2.result c.hops.ensures c.lowest_marked.ensures c.lowest_marked-2.ensures)
