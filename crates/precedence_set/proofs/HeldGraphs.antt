-- The assumed pairs that are kept are a graph of all routers.
use Rattle.std.proofs.Common.{◌≡◌, ℕ, List, length, take, arith, subst}
use Rattle.std.proofs.lemmas.Grind.{common_steps}
use Rattle.std.proofs.lemmas.List.{length-take-le}
use Rattle.order_core.specs.Pairs.{Pair}
use Rattle.precedence_set.specs.steps.Graphs.{IsGraph}
use Rattle.precedence_set.specs.Held.{IsSettled}
use Rattle.precedence_set.specs.declared.graph.SuccessorGraph.{SuccessorGraph}
use Rattle.precedence_set.specs.declared.precedences.Precedences.TheInside.{Inside}
use Rattle.precedence_set.proofs.MarkedLinks.{AreMarked-now}

-- the first ones of the room, with what the links hold now
pub graph_held : (a : Inside) → IsSettled a → (n : ℕ) → a.routers ≡ n → (items : List Pair) → items ≡ a.room.items →
    (graph : SuccessorGraph) → graph.pairs.now ≡ take a.count items → graph.successors.now ≡ a.successors → IsGraph n graph
graph_held a settled n routers items same graph pairs links =
    let is : graph.pairs.now ≡ take a.count a.room.items = subst (λ (xs : List Pair). graph.pairs.now ≡ take a.count xs) same pairs in
    let now = AreMarked-now a.routers a.room.items a.count a.successors settled.marked settled.moves in
    let long : length (take a.count a.room.items) ≡ a.count =
    length-take-le a.count a.room.items (omega (arith, settled.counted, a.room.ok.0)) in
    record {
      below = grind (arith, common_steps, is, routers, settled.below);
      successors = grind (arith, common_steps, is, links, routers, now);
      nodes = grind (arith, common_steps, is, links, long, settled.counted, settled.nodes);
    }
