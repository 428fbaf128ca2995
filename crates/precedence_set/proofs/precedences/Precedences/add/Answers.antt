-- A pair is kept where its second router doesn't reach its first.
use Rattle.std.proofs.lemmas.Grind.{common_steps}
use Rattle.std.proofs.Common.{◌≡◌, ◌<◌, Bool, true, false, List, ◌++◌, ◌∷◌, [], set, take, length, arith, subst, sym, ap, refl}
use Rattle.std.proofs.Common.{◌∙◌, ℕ, ◌+◌}
use Rattle.std.proofs.lemmas.List.{take_more_set, length_push, length-take-le, with_items_is}
use Rattle.std.proofs.lemmas.Bool.{cases_Bool, false≢true}
use Rattle.std.proofs.lemmas.List.Elements.{All-push}
use Rattle.order_core.specs.Pairs.{Pair, AreBelow, HasNoCycle, Reaches}
use Rattle.precedence_set.specs.Assumed.{Assumed}
use Rattle.order_core.proofs.Paths.{HasNoCycle-push, Leads-from_Reaches, Reaches-from_Leads}
use Rattle.order_core.specs.Rankings.{rank_of}
use Rattle.precedence_set.specs.Layers.{AreLayers}
use Rattle.precedence_set.specs.Successors.{AreSuccessors}
use Rattle.precedence_set.proofs.ChainFacts.{rank_few}
use Rattle.precedence_set.proofs.MarkedLinks.{AreMarked-now, AreMarked-linked, IsFree-next}
use Rattle.precedence_set.proofs.HeldGraphs.{graph_held}
use Rattle.precedence_set.proofs.precedences.Precedences.add.Goals as goal

-- layers that aren't stale after a pair weren't before it
fresh_before : (before after : Bool) → (before ≡ true → after ≡ true) → after ≡ false → before ≡ false
fresh_before before after stays fresh = grind (arith, common_steps, cases_Bool, false≢true)

pub closed_cycle-requires-clause-acyclic : goal.closed_cycle-requires-clause-acyclic
closed_cycle-requires-clause-acyclic c =
    subst (λ (xs : List Pair). HasNoCycle (take c.self.inside.count xs)) (sym c.deref.ensures.value) c.self.invariant.acyclic

pub add_to_layers-self-inside-requires-clause-lists : goal.add_to_layers-self-inside-requires-clause-lists
add_to_layers-self-inside-requires-clause-lists c =
    let a = c.self.inside in
    let now = AreMarked-now a.routers a.room.items a.count a.successors c.self.invariant.marked c.self.invariant.moves in
    omega (arith, now.count, c.self.invariant.layers_length, c.deref_mut-in-None.ensures.len)

pub add_to_layers-self-inside-requires-clause-few : goal.add_to_layers-self-inside-requires-clause-few
add_to_layers-self-inside-requires-clause-few c = λ fresh.
    let a = c.self.inside in
    let old = c.self.invariant in
    let few = rank_few a.routers (take a.count a.room.items) a.layers.items old.below (old.layered fresh) c.args.u in
    let same : rank_of c.deref_mut-in-None.result.now c.args.u ≡ rank_of a.layers.items c.args.u =
    ap (λ (xs : List ℕ). rank_of xs c.args.u) c.deref_mut-in-None.ensures.value in
    omega (arith, few, same, a.layers.ok.0, old.layers_length, old.few)

pub invariant_of-self-in-None : goal.invariant_of-self-in-None
invariant_of-self-in-None c =
    let a = c.self.inside in
    let old = c.self.invariant in
    let now = AreMarked-now a.routers a.room.items a.count a.successors old.marked old.moves in
    let took = c.add_to_layers-self-inside in
    let held = c.deref_mut-in-None in
    let size : a.routers ≡ length held.result.now = omega (arith, old.layers_length, held.ensures.len) in
    let kept : a.routers ≡ length took.new.layers = omega (arith, size, took.auto.layers) in
    let free : a.count < a.room.len = omega (arith, c.requires.room, ap (λ (x : Assumed). x.spare) c.self.view_is) in
    let in' : a.count < length a.room.items = omega (arith, free, a.room.ok.0) in
    let pair : Pair = (c.args.u, c.args.v) in
    let e = take_more_set a.room.items a.count pair in' in
    let routers : a.routers ≡ c.args.self.now.routers = ap (λ (x : Assumed). x.routers) c.self.view_is in
    let apart : ¬ Reaches (take a.count a.room.items) c.args.v c.args.u =
    subst (λ (xs : List Pair). ¬ Reaches (take a.count xs) c.args.v c.args.u) c.deref.ensures.value c.in-None.ensures.open in
    record {
      few = old.few;
      counted = omega (arith, free);
      bounded = old.bounded;
      nodes = omega (arith, old.nodes, c.link.ensures.nodes);
      spare = omega (arith, old.spare, free, c.link.ensures.spare);
      moves = ap (λ (t : List (List (List ℕ))). length t) c.link.ensures.trail ∙ length_push a.successors.trail a.successors.lists
          ∙ ap (λ (k : ℕ). k + 1) old.moves;
      marked = AreMarked-linked a.routers a.room.items a.count c.args.u c.args.v a.successors c.link.new.self old.marked old.moves in'
          (omega (arith, c.requires.u_in, routers)) c.link.ensures.lists c.link.ensures.trail;
      cycle_length = old.cycle_length;
      cycle_counted = old.cycle_counted;
      marks_length = old.marks_length;
      counts_length = old.counts_length;
      order_length = old.order_length;
      layers_length = old.layers_length;
      below = subst (λ (xs : List Pair). AreBelow a.routers xs) (sym e) (All-push (λ (p : Pair). (p.0 < a.routers) × (p.1 < a.routers))
          (take a.count a.room.items) pair old.below (omega (arith, c.requires.u_in, routers), omega (arith, c.requires.v_in, routers)));
      acyclic = subst (λ (xs : List Pair). HasNoCycle xs) (sym e) (HasNoCycle-push (take a.count a.room.items) c.args.u c.args.v old.acyclic apart);
      layered = λ fresh.
          let was = old.layered (fresh_before a.stale took.result took.ensures.stays fresh) in
          let moved : AreLayers a.routers (take a.count a.room.items) held.result.now =
          subst (λ (xs : List ℕ). AreLayers a.routers (take a.count a.room.items) xs) (sym held.ensures.value) was in
          let layers = took.ensures.layers (take a.count a.room.items) fresh
          (subst (λ (n : ℕ). AreSuccessors n (take a.count a.room.items) a.successors.lists) size now)
          (subst (λ (n : ℕ). AreLayers n (take a.count a.room.items) held.result.now) size moved) in
          let whole = subst (λ (n : ℕ). AreLayers n (take a.count a.room.items ++ pair ∷ []) took.new.layers) (sym kept) layers in
          subst (λ (xs : List ℕ). AreLayers a.routers (take (a.count + 1) (set a.room.items a.count pair)) xs)
          (sym (with_items_is a.layers took.new.layers (omega (arith, kept, old.layers_length))))
          (subst (λ (xs : List Pair). AreLayers a.routers xs took.new.layers) (sym e) whole);
    }

pub returns-in-Some-clause-closes : goal.returns-in-Some-clause-closes
returns-in-Some-clause-closes c = grind (arith, common_steps, Leads-from_Reaches)

pub returns-in-None-clause-closes : goal.returns-in-None-clause-closes
returns-in-None-clause-closes c = grind (arith, common_steps, Reaches-from_Leads)

pub closed_cycle-requires-clause-graph : goal.closed_cycle-requires-clause-graph
closed_cycle-requires-clause-graph c =
    graph_held c.self.inside c.self.invariant _ (omega (arith, c.self.invariant.order_length, c.deref_mut-3.ensures.len)) c.deref.result.now
    c.deref.ensures.value _ refl refl

pub link-requires-clause-list : goal.link-requires-clause-list
link-requires-clause-list c =
    let a = c.self.inside in
    let now = AreMarked-now a.routers a.room.items a.count a.successors c.self.invariant.marked c.self.invariant.moves in
    let routers : a.routers ≡ c.args.self.now.routers = ap (λ (x : Assumed). x.routers) c.self.view_is in
    omega (arith, now.count, routers, c.requires.u_in)

pub link-requires-clause-free : goal.link-requires-clause-free
link-requires-clause-free c =
    let a = c.self.inside in
    let now = AreMarked-now a.routers a.room.items a.count a.successors c.self.invariant.marked c.self.invariant.moves in
    IsFree-next a.routers (take a.count a.room.items) a.successors.lists a.count now
    (omega (arith, length-take-le a.count a.room.items (omega (arith, c.self.invariant.counted, a.room.ok.0))))
