use Rattle.std.proofs.Common.{◌<◌, List, arith, ap, sym, subst}
use Rattle.std.proofs.lemmas.List.Elements.{All-push}
use Rattle.order_core.specs.Pairs.{Pair, AreBelow}
use Rattle.refutation_check.specs.steps.Assumed.{Assumptions}
use Rattle.refutation_check.proofs.PairCounts.{few_at, add_at}
use Rattle.refutation_check.proofs.assumed.Assumed.add.Goals as goal

pub overflow_add-index_mut : goal.overflow_add-index_mut
overflow_add-index_mut c =
    let a = c.self.inside in
    let count = ap (λ (x : Assumptions). x.routers) c.self.view_is in
    let before_in : c.args.before < a.routers = omega (arith, c.requires.before_in, count) in
    let after_in : c.args.after < a.routers = omega (arith, c.requires.after_in, count) in
    let few = few_at a.routers c.args.before c.args.after c.place_of-place.result c.index_mut.result.now a.counts.items a.pairs.items before_in after_in
    c.place_of-place.ensures.value c.index_mut.ensures.value c.self.invariant.counts in
    omega (arith, few, a.pairs.ok.0, a.pairs.ok.1, a.pairs.small)

pub invariant_of-self-2 : goal.invariant_of-self-2
invariant_of-self-2 c =
    let a = c.self.inside in
    let count = ap (λ (x : Assumptions). x.routers) c.self.view_is in
    let before_in : c.args.before < a.routers = omega (arith, c.requires.before_in, count) in
    let after_in : c.args.after < a.routers = omega (arith, c.requires.after_in, count) in
    record {
      few = c.self.invariant.few;
      below = subst (λ (l : List Pair). AreBelow a.routers l) (sym c.in_ok-push.ensures.items)
          (All-push (λ (p : Pair). (p.0 < a.routers) × (p.1 < a.routers)) a.pairs.items (c.args.before, c.args.after) c.self.invariant.below
          (before_in, after_in));
      counts = add_at a.routers c.args.before c.args.after c.place_of-place.result c.index_mut.result.now a.counts.items a.pairs.items c.push.new.self.items
          before_in after_in
          c.place_of-place.ensures.value c.index_mut.ensures.value c.self.invariant.counts c.in_ok-push.ensures.items;
    }
