use Rattle.order_core.specs.Pairs.{Pair}
use Rattle.refutation_check.proofs.PairCounts.{back_at, below_front, below_last}
use Rattle.refutation_check.proofs.assumed.Assumed.take_back.Goals as goal

pub overflow_sub-index_mut : goal.overflow_sub-index_mut
overflow_sub-index_mut c =
    let a = c.self.inside in
    let p : Pair = (c.in-Some.before, c.in-Some.after) in
    let last = below_last a.routers a.pairs.items c.pop.new.self.items p c.in-Some.ensures.items c.self.invariant.below in
    (back_at a.routers c.in-Some.before c.in-Some.after c.place_of-place.result c.index_mut.result.now a.counts.items c.pop.new.self.items a.pairs.items
    last.0 last.1
    c.place_of-place.ensures.value c.index_mut.ensures.value c.self.invariant.counts c.in-Some.ensures.items).0

pub invariant_of-self : goal.invariant_of-self
invariant_of-self c =
    let a = c.self.inside in
    let p : Pair = (c.in-Some.before, c.in-Some.after) in
    let last = below_last a.routers a.pairs.items c.pop.new.self.items p c.in-Some.ensures.items c.self.invariant.below in
    record {
      few = c.self.invariant.few;
      below = below_front a.routers a.pairs.items c.pop.new.self.items p c.in-Some.ensures.items c.self.invariant.below;
      counts = (back_at a.routers c.in-Some.before c.in-Some.after c.place_of-place.result c.index_mut.result.now a.counts.items c.pop.new.self.items
          a.pairs.items last.0 last.1
          c.place_of-place.ensures.value c.index_mut.ensures.value c.self.invariant.counts c.in-Some.ensures.items).1;
    }
