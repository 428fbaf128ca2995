-- Each step of the walk goes to the next pair from the same router.
use Rattle.std.proofs.Common.{ℕ, ◌<◌, Option, subst, sym}
use Rattle.precedence_set.specs.steps.Walking.{walk}
use Rattle.precedence_set.proofs.SuccessorFacts.{IsFirstFrom-first, IsFirstFrom-next, IsWalked, IsWalked-begin, IsWalked-step, left_after}
use Rattle.precedence_set.proofs.SuccessorFacts.{left_after-smaller, lowest-after, lowest-lowest, lowest-none}
use Rattle.precedence_set.proofs.following.lowest_marked_after.Goals as goal

pub loop-at-init : goal.loop-at-init
loop-at-init c = IsWalked-begin c.args.graph.now.pairs.now c.args.marks.now c.args.x _
    (IsFirstFrom-first _ c.args.graph.now.pairs.now _ c.args.x _ c.requires.graph.successors
    c.requires.x_in c.first-at.ensures)

pub loop-at-preserved : goal.loop-at-preserved
loop-at-preserved c =
    let walked = subst (λ (o : Option ℕ). IsWalked (walk c.args.graph.now.pairs.now c.args.x o) c.args.marks.now
    c.loop-at.lowest) c.in-Some.is c.loop-at.invariant in
    IsWalked-step c.args.graph.now.pairs.now c.args.marks.now c.args.x c.in-Some.number c.loop-at.lowest _ _ walked
    (IsFirstFrom-next _ c.args.graph.now.pairs.now _ c.args.x c.in-Some.number _ c.requires.graph.successors c.requires.x_in walked.walked.first.1
    walked.walked.first.2 c.next-at.ensures)
    c.lowest_with-lowest.ensures.found c.lowest_with-lowest.ensures.no_higher c.lowest_with-lowest.ensures.at_most

pub loop-at-smaller : goal.loop-at-smaller
loop-at-smaller c =
    let walked = subst (λ (o : Option ℕ). IsWalked (walk c.args.graph.now.pairs.now c.args.x o) c.args.marks.now
    c.loop-at.lowest) c.in-Some.is c.loop-at.invariant in
    let first = IsFirstFrom-next _ c.args.graph.now.pairs.now _ c.args.x c.in-Some.number _ c.requires.graph.successors c.requires.x_in walked.walked.first.1
    walked.walked.first.2 c.next-at.ensures in
    subst (λ (o : Option ℕ). left_after c.args.graph.now.pairs.now c.next-at.result < left_after c.args.graph.now.pairs.now o) (sym c.in-Some.is)
    (left_after-smaller c.args.graph.now.pairs.now c.args.x c.in-Some.number c.next-at.result walked.walked.first.1 first)

pub returns-clause-after : goal.returns-clause-after
returns-clause-after c = lowest-after (walk c.args.graph.now.pairs.now c.args.x c.loop-at.at) c.args.marks.now _ c.loop-at.invariant

pub returns-clause-lowest : goal.returns-clause-lowest
returns-clause-lowest c = lowest-lowest c.args.graph.now.pairs.now c.args.marks.now c.args.x c.loop-at.at _ c.loop-at.invariant c.in_default.not-Some

pub returns-clause-none : goal.returns-clause-none
returns-clause-none c = lowest-none c.args.graph.now.pairs.now c.args.marks.now c.args.x c.loop-at.at _ c.loop-at.invariant c.in_default.not-Some
