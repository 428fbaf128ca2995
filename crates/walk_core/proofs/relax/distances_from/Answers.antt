use Rattle.std.proofs.Common.{◌≡◌, ◌<◌, ◌++◌, replicate, None, arith, length, length-set, take, drop, ℕ, List, Option, ap, sym, subst, ◌∙◌}
use Rattle.std.proofs.lemmas.List.{length-replicate}
use Rattle.std.proofs.lemmas.Grind.{common_steps}
use Rattle.walk_core.specs.steps.Rows.{AreLeastDistances}
use Rattle.walk_core.specs.steps.Relaxing.{AreWalked}
use Rattle.walk_core.proofs.RelaxLaws.{room_at_first, walked_at_first, distances_from_tight}
use Rattle.walk_core.proofs.relax.distances_from.Goals as goal

pub loop-init : goal.loop-init
loop-init g c =
    let first : c.in_ok-distances.distances.items ≡ replicate c.vertices.result None =
    c.in_ok-distances.ensures.items_if_clones_equal (λ y is. is) ∙ ap (λ (d : Option ℕ). replicate c.vertices.result d) c.none.ensures in
    let count : c.vertices.result ≡ g.G.CostGraph.vertex_count c.args.graph.now = c.vertices.ensures in
    let in_range : c.args.root < c.vertices.result = rw count c.requires in
    rw first (rw c.of.ensures (record {
      whole = simp (length-set, length-replicate) count;
      room = room_at_first c.vertices.result c.args.root in_range (omega arith);
      walked = walked_at_first (g.G.CostGraph.has_arc c.args.graph.now) c.vertices.result c.args.root in_range;
    }))

pub returns-clause-least : goal.returns-clause-least
returns-clause-least g c =
    let laws = g.met.G.CostGraph in
    let arc = g.G.CostGraph.has_arc c.args.graph.now in
    let count = g.G.CostGraph.vertex_count c.args.graph.now in
    let last = c.relax_all.new.distances in
    let whole : take c.loop.distances.len (last ++ drop (length last) c.loop.distances.items) ≡ last = grind (arith, common_steps) in
    let walked : AreWalked arc c.args.root last =
    c.relax_all.ensures.relaxes.walked c.args.root (rw c.deref_mut.ensures.value c.loop.invariant.walked) in
    let least : AreLeastDistances arc c.args.root last =
    distances_from_tight arc count c.args.root last c.requires
    (λ u v cost in_range over. laws.end_is_vertex c.args.graph.now u v cost in_range over)
    c.loop-test.ensures.tight walked in
    let P : List (Option ℕ) → Type 0 = λ ds. AreLeastDistances arc c.args.root ds in
    subst P (sym (c.from_vec.ensures ∙ whole)) least
