-- Each step of the walk frees the router where the next pair leads.
use Rattle.std.proofs.lemmas.Grind.{common_steps}
use Rattle.std.proofs.Common.{ℕ, ◌<◌, ◌≡◌, Option, arith, subst, sym, refl, get_or, length}
use Rattle.precedence_set.specs.steps.Sorting.{IsGone, IsGoneBy, passing, queue, stop}
use Rattle.precedence_set.specs.steps.Walking.{pair_at}
use Rattle.precedence_set.proofs.LayerFacts.{pair_at_below}
use Rattle.precedence_set.proofs.SuccessorFacts.{IsFirstFrom-first, IsFirstFrom-next, left_after, left_after-smaller}
use Rattle.precedence_set.proofs.SortFacts.{AreLeftCounts-same, counted_some}
use Rattle.precedence_set.proofs.ListFacts.{IsFreeing, IsFreeing-step, IsFreeing-end, IsGoneBy-begin, fresh_pair, room_for}
use Rattle.precedence_set.proofs.sorting.list_after.Goals as goal

pub loop-at-init : goal.loop-at-init
loop-at-init c = record {
  start = 0;
  first = IsFirstFrom-first (length c.args.order.now) c.args.graph.now.pairs.now c.args.graph.now.successors.now.lists
      (get_or c.args.order.now c.args.k 0) c.first-at.result
      c.requires.graph.successors (c.requires.listing.below c.args.k c.requires.listed) c.first-at.ensures;
  before = c.requires.listed;
  within = c.requires.within;
  listing = c.requires.listing;
  counted = AreLeftCounts-same c.args.graph.now.pairs.now (IsGone c.args.graph.now.pairs.now c.args.order.now c.args.k)
      (IsGoneBy c.args.graph.now.pairs.now (passing c.args.order.now c.args.k 0))
      c.args.counts.now (λ i lt. IsGoneBy-begin c.args.graph.now.pairs.now c.args.order.now c.args.k i) c.requires.counted;
}

pub free_one-count-requires-clause-some : goal.free_one-count-requires-clause-some
free_one-count-requires-clause-some c =
    let f = subst (λ (o : Option ℕ). IsFreeing (length c.loop-at.order) c.args.graph.now.pairs.now (queue c.loop-at.counts c.loop-at.order c.loop-at.count)
    (stop c.args.k o)) c.in-Some.is c.loop-at.invariant in
    let v_in = (pair_at_below (length c.args.order.now) c.args.graph.now.pairs.now c.requires.graph.below c.in-Some.number f.first.1).1 in
    counted_some c.args.graph.now.pairs.now (IsGoneBy c.args.graph.now.pairs.now (passing c.loop-at.order c.args.k f.start)) c.loop-at.counts c.in-Some.number
    (pair_at c.args.graph.now.pairs.now c.in-Some.number).1 f.counted f.first.1
    (fresh_pair (length c.loop-at.order) c.args.graph.now.pairs.now c.loop-at.counts c.loop-at.order c.args.k c.loop-at.count c.in-Some.number f) refl
    (omega (arith, v_in, c.requires.counts_length, c.loop-at.auto.counts))

pub free_one-count-requires-clause-room : goal.free_one-count-requires-clause-room
free_one-count-requires-clause-room c = grind (arith, common_steps, pair_at_below, room_for)

pub loop-at-smaller : goal.loop-at-smaller
loop-at-smaller c =
    let f = subst (λ (o : Option ℕ). IsFreeing (length c.loop-at.order) c.args.graph.now.pairs.now (queue c.loop-at.counts c.loop-at.order c.loop-at.count)
    (stop c.args.k o)) c.in-Some.is c.loop-at.invariant in
    let x_in : get_or c.loop-at.order c.args.k 0 < length c.args.order.now = omega (arith, f.listing.below c.args.k f.before, c.loop-at.auto.order) in
    let first = IsFirstFrom-next (length c.args.order.now) c.args.graph.now.pairs.now c.args.graph.now.successors.now.lists
    (get_or c.loop-at.order c.args.k 0) c.in-Some.number
    c.next-at.result c.requires.graph.successors x_in f.first.1 f.first.2 c.next-at.ensures in
    subst (λ (o : Option ℕ). left_after c.args.graph.now.pairs.now c.next-at.result < left_after c.args.graph.now.pairs.now o) (sym c.in-Some.is)
    (left_after-smaller c.args.graph.now.pairs.now (get_or c.loop-at.order c.args.k 0) c.in-Some.number c.next-at.result f.first.1 first)

pub loop-at-preserved : goal.loop-at-preserved
loop-at-preserved c =
    let f = subst (λ (o : Option ℕ). IsFreeing (length c.loop-at.order) c.args.graph.now.pairs.now (queue c.loop-at.counts c.loop-at.order c.loop-at.count)
    (stop c.args.k o)) c.in-Some.is c.loop-at.invariant in
    let x_in : get_or c.loop-at.order c.args.k 0 < length c.args.order.now = omega (arith, f.listing.below c.args.k f.before, c.loop-at.auto.order) in
    let first = IsFirstFrom-next (length c.args.order.now) c.args.graph.now.pairs.now c.args.graph.now.successors.now.lists
    (get_or c.loop-at.order c.args.k 0) c.in-Some.number
    c.next-at.result c.requires.graph.successors x_in f.first.1 f.first.2 c.next-at.ensures in
    let v_in = (pair_at_below (length c.args.order.now) c.args.graph.now.pairs.now c.requires.graph.below c.in-Some.number f.first.1).1 in
    let some = counted_some c.args.graph.now.pairs.now (IsGoneBy c.args.graph.now.pairs.now
    (passing c.loop-at.order c.args.k f.start)) c.loop-at.counts c.in-Some.number
    (pair_at c.args.graph.now.pairs.now c.in-Some.number).1 f.counted f.first.1
    (fresh_pair (length c.loop-at.order) c.args.graph.now.pairs.now c.loop-at.counts c.loop-at.order c.args.k c.loop-at.count c.in-Some.number f) refl
    (omega (arith, v_in, c.requires.counts_length, c.loop-at.auto.counts)) in
    let long : length c.loop-at.order ≡ length c.free_one-count.new.order = omega arith in
    subst (λ (n : ℕ). IsFreeing n c.args.graph.now.pairs.now (queue c.free_one-count.new.counts c.free_one-count.new.order c.free_one-count.result)
    (stop c.args.k c.next-at.result)) long
    (IsFreeing-step (length c.loop-at.order) c.args.graph.now.pairs.now c.loop-at.counts c.free_one-count.new.counts
    c.loop-at.order c.free_one-count.new.order c.args.k
    c.loop-at.count c.free_one-count.result c.in-Some.number (pair_at c.args.graph.now.pairs.now c.in-Some.number).1 c.next-at.result f
    (omega (arith, c.requires.counts_length, c.loop-at.auto.counts, c.loop-at.auto.order)) refl (omega (arith, v_in, c.loop-at.auto.order)) refl first some
    c.free_one-count.ensures.counts c.free_one-count.ensures.count c.free_one-count.ensures.order c.free_one-count.ensures.same_count
    c.free_one-count.ensures.same_order)

pub returns-clause-counted : goal.returns-clause-counted
returns-clause-counted c = IsFreeing-end (length c.loop-at.order) c.args.graph.now.pairs.now c.loop-at.counts c.loop-at.order
    c.args.k c.loop-at.count c.loop-at.at
    c.loop-at.invariant c.in_default.not-Some
