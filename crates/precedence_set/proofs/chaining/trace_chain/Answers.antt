-- Each step goes back to the parent of the router after it.
use Rattle.std.proofs.lemmas.Grind.{common_steps}
use Rattle.std.proofs.Common.{◌≡◌, ◌-◌, ℕ, suc, length, length-set, arith, subst, refl, set, ◌∙◌}
use Rattle.precedence_set.specs.steps.Chaining.{trace}
use Rattle.precedence_set.proofs.ChainFacts.{IsTraced, IsTraced-begin, IsTraced-down, IsChain-traced, some_in_last, count_few, rank_few}
use Rattle.precedence_set.proofs.chaining.trace_chain.Goals as goal

by_count : (n : ℕ) → ¬ (n ≡ 0) → suc (n - 1) ≡ n
by_count n some = grind (arith, common_steps)

pub find_parents-requires-clause-few : goal.find_parents-requires-clause-few
find_parents-requires-clause-few c =
    λ u. omega (arith, rank_few (length c.args.layers.now) c.args.pairs.now c.args.layers.now c.requires.below c.requires.layers u, c.requires.small)

pub first_in_layer-requires-clause-some : goal.first_in_layer-requires-clause-some
first_in_layer-requires-clause-some c =
    some_in_last (length c.args.layers.now) c.args.pairs.now c.args.layers.now (c.args.count - 1) c.requires.below c.requires.layers
    (by_count c.args.count c.if-count-eq0.false ∙ c.requires.count)

pub bounds-out-k : goal.bounds-out-k
bounds-out-k c =
    omega (
      arith,
      by_count c.args.count c.if-count-eq0.false,
      c.requires.count,
      c.requires.out_length,
      count_few (length c.args.layers.now) c.args.pairs.now c.args.layers.now
          c.requires.below c.requires.layers,
    )

pub loop-k-init : goal.loop-k-init
loop-k-init c =
    let e : suc (c.args.count - 1) ≡ c.args.count = by_count c.args.count c.if-count-eq0.false in
    let few = count_few (length c.args.layers.now) c.args.pairs.now c.args.layers.now c.requires.below c.requires.layers in
    let out = set c.args.out.now (c.args.count - 1) c.first_in_layer.result in
    subst (λ (n : ℕ). IsTraced (length c.args.layers.now) c.args.pairs.now (trace c.args.layers.now out n) (c.args.count - 1)) e
    (IsTraced-begin (length c.args.layers.now) c.args.pairs.now c.args.layers.now c.args.out.now (c.args.count - 1) c.first_in_layer.result refl
    c.first_in_layer.ensures (omega (arith, e, few, c.requires.count, c.requires.out_length)))

pub bounds-out-k-in-loop-k : goal.bounds-out-k-in-loop-k
bounds-out-k-in-loop-k c =
    omega (
      arith,
      c.loop-k-test.true,
      c.loop-k.invariant.before,
      c.loop-k.auto.out,
      length-set {A = ℕ},
      c.requires.count,
      c.requires.out_length,
      count_few (length c.args.layers.now) c.args.pairs.now c.args.layers.now c.requires.below c.requires.layers,
    )

pub bounds-out-k-in-loop-k-2 : goal.bounds-out-k-in-loop-k-2
bounds-out-k-in-loop-k-2 c =
    omega (
      arith,
      c.loop-k-test.true,
      c.loop-k.invariant.before,
      c.loop-k.auto.out,
      length-set {A = ℕ},
      c.requires.count,
      c.requires.out_length,
      count_few (length c.args.layers.now) c.args.pairs.now c.args.layers.now c.requires.below c.requires.layers,
    )

pub loop-k-preserved : goal.loop-k-preserved
loop-k-preserved c =
    let few = count_few (length c.args.layers.now) c.args.pairs.now c.args.layers.now c.requires.below c.requires.layers in
    IsTraced-down (length c.args.layers.now) c.args.pairs.now c.args.layers.now c.loop-k.out c.find_parents.new.parents 4294967295 c.args.count c.loop-k.k
    c.requires.below c.requires.layers (omega (arith, c.requires.small))
    c.find_parents.ensures.lowest c.find_parents.ensures.found (omega (
      arith,
      few,
      c.requires.count,
      c.requires.out_length,
      c.loop-k.auto.out,
      length-set {A = ℕ},
    )) c.loop-k-test.true c.loop-k.invariant

pub returns : goal.returns
returns c =
    let few = count_few (length c.args.layers.now) c.args.pairs.now c.args.layers.now c.requires.below c.requires.layers in
    let none : c.loop-k.k ≡ 0 = omega (arith, c.loop-k-test.false) in
    let traced = subst (λ (k : ℕ). IsTraced (length c.args.layers.now) c.args.pairs.now (trace c.args.layers.now c.loop-k.out c.args.count) k)
    none c.loop-k.invariant in
    IsChain-traced (length c.args.layers.now) c.args.pairs.now c.args.layers.now c.loop-k.out c.args.count traced c.requires.count
    (omega (arith, few, c.requires.count, c.requires.out_length, c.loop-k.auto.out, length-set {A = ℕ}))
