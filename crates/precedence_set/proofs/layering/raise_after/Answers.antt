-- Each step of the walk raises the router where the next pair leads.
use Rattle.std.proofs.Common.{ℕ, ◌+◌, ◌<◌, ◌≤◌, Option, arith, subst, sym, get_or, length}
use Rattle.order_core.specs.Rankings.{rank_of}
use Rattle.precedence_set.specs.steps.Walking.{walk}
use Rattle.precedence_set.proofs.LayerFacts.{pair_at_below}
use Rattle.precedence_set.proofs.SuccessorFacts.{HasPassed-end, IsFirstFrom-first, IsFirstFrom-next, left_after, left_after-smaller}
use Rattle.precedence_set.proofs.RaiseFacts.{IsRaising, IsRaising-begin, IsRaising-step}
use Rattle.precedence_set.proofs.layering.raise_after.Goals as goal

pub loop-at-init : goal.loop-at-init
loop-at-init c = IsRaising-begin c.args.graph.now.pairs.now c.args.layers.now c.args.u _ c.first-at.result
    (IsFirstFrom-first (length c.args.layers.now) c.args.graph.now.pairs.now
    c.args.graph.now.successors.now.lists c.args.u c.first-at.result c.requires.graph.successors c.requires.u_in c.first-at.ensures)

pub loop-at-smaller : goal.loop-at-smaller
loop-at-smaller c =
    let r = subst (λ (o : Option ℕ). IsRaising (walk c.args.graph.now.pairs.now c.args.u o) c.args.layers.now c.loop-at.layers
    (get_or c.args.layers.now c.args.u 0 + 1))
    c.in-Some.is c.loop-at.invariant in
    let first = IsFirstFrom-next (length c.args.layers.now) c.args.graph.now.pairs.now c.args.graph.now.successors.now.lists
    c.args.u c.in-Some.number c.next-at.result
    c.requires.graph.successors c.requires.u_in r.walked.first.1 r.walked.first.2 c.next-at.ensures in
    subst (λ (o : Option ℕ). left_after c.args.graph.now.pairs.now c.next-at.result < left_after c.args.graph.now.pairs.now o) (sym c.in-Some.is)
    (left_after-smaller c.args.graph.now.pairs.now c.args.u c.in-Some.number c.next-at.result r.walked.first.1 first)

pub loop-at-preserved : goal.loop-at-preserved
loop-at-preserved c =
    let r = subst (λ (o : Option ℕ). IsRaising (walk c.args.graph.now.pairs.now c.args.u o) c.args.layers.now c.loop-at.layers
    (get_or c.args.layers.now c.args.u 0 + 1))
    c.in-Some.is c.loop-at.invariant in
    let first = IsFirstFrom-next (length c.args.layers.now) c.args.graph.now.pairs.now c.args.graph.now.successors.now.lists
    c.args.u c.in-Some.number c.next-at.result
    c.requires.graph.successors c.requires.u_in r.walked.first.1 r.walked.first.2 c.next-at.ensures in
    let v_in = (pair_at_below (length c.args.layers.now) c.args.graph.now.pairs.now c.requires.graph.below c.in-Some.number r.walked.first.1).1 in
    IsRaising-step c.args.graph.now.pairs.now c.args.layers.now c.loop-at.layers c.args.u
    (get_or c.args.layers.now c.args.u 0 + 1) c.in-Some.number c.next-at.result _ r
    (omega (arith, v_in, c.loop-at.auto.layers)) first c.max.ensures

pub returns-clause-above : goal.returns-clause-above
returns-clause-above c = HasPassed-end c.args.graph.now.pairs.now c.args.u c.loop-at.at
    (λ v. get_or c.args.layers.now c.args.u 0 + 1 ≤ rank_of c.loop-at.layers v)
    c.loop-at.invariant.walked c.in_default.not-Some
