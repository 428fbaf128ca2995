-- The pairs stay the first ones of the room.
use Rattle.std.proofs.Common.{◌≡◌, ◌≤◌, ℕ, List, length, take, arith, subst, sym, ap, ◌∙◌}
use Rattle.std.proofs.lemmas.List.{take-take}
use Rattle.order_core.specs.Pairs.{Pair, AreBelow, HasNoCycle}
use Rattle.precedence_set.specs.Layers.{AreLayers}
use Rattle.precedence_set.proofs.MarkedLinks.{AreMarked-same}
use Rattle.precedence_set.proofs.precedences.Precedences.reserve.Goals as goal

pub invariant_of-self : goal.invariant_of-self
invariant_of-self c =
    let a = c.self.inside in
    let old = c.self.invariant in
    let e : take a.count a.room.items ≡ take a.count c.widen.new.room.items =
    ap (λ (xs : List Pair). take a.count xs) (sym c.widen.ensures.kept) ∙ take-take a.count a.room.len c.widen.new.room.items old.counted in
    let moves : length c.widen.new.successors.trail ≡ length a.successors.trail = ap (λ (t : List (List (List ℕ))). length t) c.widen.ensures.trail in
    let kept : (i : ℕ) → i ≤ a.count → take i a.room.items ≡ take i c.widen.new.room.items =
    λ (i : ℕ) (le : i ≤ a.count). ap (λ (xs : List Pair). take i xs) (sym c.widen.ensures.kept) ∙ take-take i a.room.len c.widen.new.room.items
    (omega (arith, le, old.counted)) in
    record {
      few = old.few;
      counted = omega (arith, old.counted, c.widen.ensures.no_less);
      bounded = c.widen.ensures.bound;
      nodes = c.widen.ensures.nodes;
      spare = omega (arith, c.widen.ensures.spare, moves, old.moves);
      moves = moves ∙ old.moves;
      marked = AreMarked-same a.routers a.room.items c.widen.new.room.items a.count a.successors c.widen.new.successors old.marked c.widen.ensures.lists
          c.widen.ensures.trail kept;
      cycle_length = old.cycle_length;
      cycle_counted = old.cycle_counted;
      marks_length = old.marks_length;
      counts_length = old.counts_length;
      order_length = old.order_length;
      layers_length = old.layers_length;
      below = subst (λ (xs : List Pair). AreBelow a.routers xs) e old.below;
      acyclic = subst (λ (xs : List Pair). HasNoCycle xs) e old.acyclic;
      layered = λ fresh. subst (λ (xs : List Pair). AreLayers a.routers xs a.layers.items) e (old.layered fresh);
    }
