-- The layers that are kept are made fresh, and copied.
use Rattle.std.proofs.Common.{◌≡◌, List, ℕ, refl, take, length, arith, subst, sym, ap, ◌∙◌}
use Rattle.std.proofs.lemmas.List.{with_items_is}
use Rattle.order_core.specs.Pairs.{Pair, HasNoCycle}
use Rattle.order_core.specs.Rankings.{IsRanking}
use Rattle.precedence_set.specs.Assumed.{Assumed}
use Rattle.precedence_set.specs.Layers.{AreLayers}
use Rattle.precedence_set.proofs.LayerFacts.{layers_rank}
use Rattle.precedence_set.proofs.LayerSteps.{are_fresh}
use Rattle.precedence_set.proofs.HeldGraphs.{graph_held}
use Rattle.precedence_set.proofs.precedences.Precedences.layers.Goals as goal

pub refresh_layers-requires-clause-acyclic : goal.refresh_layers-requires-clause-acyclic
refresh_layers-requires-clause-acyclic c =
    subst (λ (xs : List Pair). HasNoCycle (take c.self.inside.count xs)) (sym c.deref.ensures.value) c.self.invariant.acyclic

pub refresh_layers-requires-clause-graph : goal.refresh_layers-requires-clause-graph
refresh_layers-requires-clause-graph c =
    graph_held c.self.inside c.self.invariant _ (omega (arith, c.self.invariant.layers_length, c.deref_mut-3.ensures.len)) c.deref.result.now
    c.deref.ensures.value _ refl refl

pub refresh_layers-requires-clause-fresh : goal.refresh_layers-requires-clause-fresh
refresh_layers-requires-clause-fresh c = λ fresh.
    let a = c.self.inside in
    let old = c.self.invariant in
    let pairs = subst (λ (xs : List Pair). AreLayers a.routers (take a.count xs) a.layers.items) (sym c.deref.ensures.value) (old.layered fresh) in
    let layers = subst (λ (xs : List ℕ). AreLayers a.routers (take a.count c.deref.result.now) xs) (sym c.deref_mut-3.ensures.value) pairs in
    let long : a.routers ≡ length c.deref_mut-3.result.now = omega (arith, old.layers_length, c.deref_mut-3.ensures.len) in
    subst (λ (n : ℕ). AreLayers n (take a.count c.deref.result.now) c.deref_mut-3.result.now) long layers

pub count_layers-requires-clause-ranking : goal.count_layers-requires-clause-ranking
count_layers-requires-clause-ranking c =
    let a = c.self.inside in
    let old = c.self.invariant in
    let new = c.refresh_layers.new.layers in
    let long : length new ≡ a.routers = omega (arith, old.layers_length, c.deref_mut-3.ensures.len, c.refresh_layers.auto.layers) in
    let are = are_fresh a.routers a.count a.room.items c.deref.result.now new c.deref.ensures.value long c.refresh_layers.ensures.layers in
    let ranking = layers_rank a.routers (take a.count a.room.items) new old.below are in
    let copied : new ≡ c.copy_from_slice.new.self =
    sym (c.copy_from_slice.ensures.after ∙ c.deref-2.ensures.value ∙ with_items_is a.layers new (omega (arith, long, old.layers_length))) in
    let whole : a.routers ≡ length c.copy_from_slice.new.self = omega (arith, long, ap (λ (xs : List ℕ). length xs) copied) in
    subst (λ (n : ℕ). IsRanking n c.copy_from_slice.new.self) whole (subst (λ (xs : List ℕ). IsRanking a.routers xs) copied ranking)

pub invariant_of-self : goal.invariant_of-self
invariant_of-self c =
    let a = c.self.inside in
    let old = c.self.invariant in
    let new = c.refresh_layers.new.layers in
    let long : length new ≡ a.routers = omega (arith, old.layers_length, c.deref_mut-3.ensures.len, c.refresh_layers.auto.layers) in
    let are = are_fresh a.routers a.count a.room.items c.deref.result.now new c.deref.ensures.value long c.refresh_layers.ensures.layers in
    record {
      few = old.few;
      counted = old.counted;
      bounded = old.bounded;
      nodes = old.nodes;
      spare = old.spare;
      moves = old.moves;
      marked = old.marked;
      cycle_length = old.cycle_length;
      cycle_counted = old.cycle_counted;
      marks_length = old.marks_length;
      counts_length = old.counts_length;
      order_length = old.order_length;
      layers_length = old.layers_length;
      below = old.below;
      acyclic = old.acyclic;
      layered = λ fresh. subst (λ (xs : List ℕ). AreLayers a.routers (take a.count a.room.items) xs)
          (sym (with_items_is a.layers new (omega (arith, long, old.layers_length)))) are;
    }

pub returns-clause-layers : goal.returns-clause-layers
returns-clause-layers c =
    let a = c.self.inside in
    let old = c.self.invariant in
    let new = c.refresh_layers.new.layers in
    let long : length new ≡ a.routers = omega (arith, old.layers_length, c.deref_mut-3.ensures.len, c.refresh_layers.auto.layers) in
    let are = are_fresh a.routers a.count a.room.items c.deref.result.now new c.deref.ensures.value long c.refresh_layers.ensures.layers in
    let copied : new ≡ c.copy_from_slice.new.self =
    sym (c.copy_from_slice.ensures.after ∙ c.deref-2.ensures.value ∙ with_items_is a.layers new (omega (arith, long, old.layers_length))) in
    let seen : take a.count a.room.items ≡ c.args.self.now.pairs = ap (λ (x : Assumed). x.pairs) c.self.view_is in
    let routers : a.routers ≡ c.args.self.now.routers = ap (λ (x : Assumed). x.routers) c.self.view_is in
    subst (λ (n : ℕ). AreLayers n c.args.self.now.pairs c.copy_from_slice.new.self) routers
    (subst (λ (xs : List Pair). AreLayers a.routers xs c.copy_from_slice.new.self) seen
    (subst (λ (xs : List ℕ). AreLayers a.routers (take a.count a.room.items) xs) copied are))

pub returns-clause-acyclic : goal.returns-clause-acyclic
returns-clause-acyclic c = subst (λ (xs : List Pair). HasNoCycle xs) (ap (λ (x : Assumed). x.pairs) c.self.view_is) c.self.invariant.acyclic
