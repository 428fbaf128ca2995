-- Fewer pairs are of the same routers, and have no cycle either.
use Rattle.std.proofs.Common.{◌≤◌, ◌<◌, ◌≡◌, List, length, take, true, false, arith, subst, ap, ℕ, ◌∙◌}
use Rattle.std.proofs.lemmas.List.{take-take, length-take-le}
use Rattle.std.proofs.lemmas.List.Elements.{All-take}
use Rattle.order_core.specs.Pairs.{Pair, AreBelow, HasNoCycle}
use Rattle.precedence_set.specs.Assumed.{Assumed}
use Rattle.order_core.proofs.Paths.{HasNoCycle-take}
use Rattle.precedence_set.proofs.MarkedLinks.{AreMarked-undone}
use Rattle.precedence_set.proofs.precedences.Precedences.undo_to.Goals as goal

pub invariant_of-self : goal.invariant_of-self
invariant_of-self c =
    let a = c.self.inside in
    let old = c.self.invariant in
    let counted : length (take a.count a.room.items) ≡ a.count = length-take-le a.count a.room.items (omega (arith, old.counted, a.room.ok.0)) in
    let le : c.args.mark ≤ a.count = omega (arith, c.requires, counted, ap (λ (x : Assumed). length x.pairs) c.self.view_is) in
    let e = take-take c.args.mark a.count a.room.items le in
    record {
      few = old.few;
      counted = omega (arith, le, old.counted);
      bounded = old.bounded;
      nodes = omega (arith, old.nodes, c.undo_to.ensures.nodes);
      spare = omega (arith, old.spare, old.moves, le, c.undo_to.ensures.spare);
      moves = ap (λ (t : List (List (List ℕ))). length t) c.undo_to.ensures.trail ∙ length-take-le c.args.mark a.successors.trail
          (omega (arith, old.moves, le));
      marked = AreMarked-undone a.routers a.room.items a.count c.args.mark a.successors c.undo_to.new.self old.marked old.moves le c.undo_to.ensures.lists
          c.undo_to.ensures.trail;
      cycle_length = old.cycle_length;
      cycle_counted = old.cycle_counted;
      marks_length = old.marks_length;
      counts_length = old.counts_length;
      order_length = old.order_length;
      layers_length = old.layers_length;
      below = subst (λ (xs : List Pair). AreBelow a.routers xs) e (All-take (λ (p : Pair). (p.0 < a.routers) × (p.1 < a.routers)) c.args.mark
          (take a.count a.room.items) old.below);
      acyclic = subst (λ (xs : List Pair). HasNoCycle xs) e (HasNoCycle-take (take a.count a.room.items) c.args.mark old.acyclic);
      layered = λ (e : true ≡ false). cc;
    }
