use Rattle.std.proofs.lemmas.Grind.{common_steps}
use Rattle.std.proofs.Common.{◌≡◌, ◌∙◌, ◌<◌, ℕ, List, Contains, length, get_or, sym, ap, subst, arith}
use Rattle.std.proofs.lemmas.List.Elements.{Contains-get_or}
use borrow.Author.Count.{below_more}
use Rattle.walk_core.specs.Distances.{distance_at}
use Rattle.walk_core.specs.declared.flood.Flood.{Flood}
use Rattle.walk_core.specs.declared.segment.Port.{Port}
use Rattle.walk_core.specs.steps.Flooding.{segment_at}
use Rattle.walk_core.specs.steps.Relaxing.{IsAtMost}
use Rattle.walk_core.specs.steps.SegmentWalks.{Joined}
use Rattle.walk_core.proofs.FloodLaws.{all_at_most, falls_none, falls_on, vertex_below}
use Rattle.walk_core.proofs.FloodSteps.{IsFloodLowered, flood_lowered}
use Rattle.walk_core.proofs.StaleLaws.{lowers_none, lowers_on}
use Rattle.walk_core.proofs.flood.lower.Goals as goal

pub ports_at-port-items-requires : goal.ports_at-port-items-requires
ports_at-port-items-requires c = subst (λ (s : List (List Port)). c.args.place < length s) (sym c.segments.ensures.value) c.requires.place

pub lower_vertex-requires : goal.lower_vertex-requires
lower_vertex-requires c =
    let segments : List (List Port) = c.args.graph.now.segments in
    let ports = c.ports_at-port-items.ensures ∙ ap (λ (s : List (List Port)). segment_at s c.args.place) c.segments.ensures.value in
    let is = c.loop-port.invariant.flood in
    let below = vertex_below segments c.args.place c.loop-port.port-index c.args.graph.now.count c.ports_at-port-items.result.now c.requires.place
    ports c.loop-port-test.true is.joined.segments in
    record {
      vertex = omega (arith, below, is.long);
      fits = c.requires.fits;
      marks = omega (arith, below, is.marks);
    }

pub loop-port-init : goal.loop-port-init
loop-port-init c = grind (arith, common_steps, falls_none, lowers_none)

pub loop-port-preserved : goal.loop-port-preserved
loop-port-preserved c =
    let none : Port = record { vertex = 0; cost = 0 } in
    let graph : Joined = c.args.graph.now in
    let given : List Port = c.ports_at-port-items.result.now in
    let segment : List Port = segment_at graph.segments c.args.place in
    let i : ℕ = c.loop-port.port-index in
    let after : Flood = c.lower_vertex.new.flood in
    let found : ℕ = c.args.found in
    let before = c.loop-port.invariant in
    let ports : given ≡ segment = c.ports_at-port-items.ensures ∙ ap (λ (s : List (List Port)). segment_at s c.args.place) c.segments.ensures.value in
    let port : Port = get_or given i none in
    let among : Contains segment port = subst (λ (l : List Port). Contains l port) ports (Contains-get_or given i none c.loop-port-test.true) in
    let step : IsFloodLowered graph c.args.place found port.vertex c.loop-port.flood after =
    flood_lowered graph c.args.place found port c.loop-port.flood after c.lower_vertex.result c.requires.place before.flood before.entry among
    c.lower_vertex.ensures.falls c.lower_vertex.ensures.after c.lower_vertex.ensures.stale c.lower_vertex.ensures.entries in
    let here : IsAtMost (distance_at after.distances.items (get_or segment i none).vertex) found =
    subst (λ (l : List Port). IsAtMost (distance_at after.distances.items (get_or l i none).vertex) found) ports step.tight in
    record {
      flood = step.flood;
      falls = falls_on before.falls step.falls;
      lowers = lowers_on found found _ _ _ (omega arith) before.lowers step.lowers;
      entry = step.entry;
      lowered = below_more (λ j. IsAtMost (distance_at after.distances.items (get_or segment j none).vertex) found) i
          (λ j less. step.falls.lower (get_or segment j none).vertex found (before.lowered j less)) here;
    }

pub returns-clause-all : goal.returns-clause-all
returns-clause-all c =
    let ports = c.ports_at-port-items.ensures ∙ ap (λ (s : List (List Port)). segment_at s c.args.place) c.segments.ensures.value in
    all_at_most c.loop-port.flood.distances.items (segment_at c.args.graph.now.segments c.args.place) c.loop-port.port-index c.args.found
    (record { vertex = 0; cost = 0 }) (omega (arith, c.loop-port-test.false, ap (λ (l : List Port). length l) ports)) c.loop-port.invariant.lowered
