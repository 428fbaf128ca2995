-- Each step of the walk lists the router where the next pair leads.
use Rattle.std.proofs.Common.{◌≡◌, ℕ, ◌<◌, Bool, List, Option, length, get_or, arith, subst, sym}
use Rattle.order_core.specs.Marks.{IsMarked}
use Rattle.order_core.proofs.Marked.{marked_in}
use Rattle.precedence_set.specs.steps.Marks.{AreListed, marked_list}
use Rattle.precedence_set.specs.steps.Walking.{walk}
use Rattle.precedence_set.proofs.ReachFacts.{IsReachingOn, IsReachingOn-begin, IsReachingOn-step}
use Rattle.precedence_set.proofs.SuccessorFacts.{HasPassed-end, IsFirstFrom-first, IsFirstFrom-next, left_after, left_after-smaller}
use Rattle.precedence_set.proofs.reaching.list_after.Goals as goal

-- the router at a place in use is one of the marked ones
listed_in : (marks : List Bool) (list : List ℕ) (count k : ℕ) → AreListed marks list count → k < count → length marks ≡ length list →
    get_or list k 0 < length list
listed_in marks list count k listed lt long = omega (arith, marked_in marks (get_or list k 0) (listed.marked k lt), long)

pub loop-at-init : goal.loop-at-init
loop-at-init c =
    let x : ℕ = get_or c.args.list.now c.args.queue.next 0 in
    let x_in = listed_in c.args.marks.now c.args.list.now c.args.queue.count c.args.queue.next c.requires.listed c.requires.place c.requires.marks_length in
    IsReachingOn-begin c.args.graph.now.pairs.now x c.args.marks.now c.args.list.now c.args.queue.count c.first-at.result
    (IsFirstFrom-first (length c.args.list.now) c.args.graph.now.pairs.now c.args.graph.now.successors.now.lists x
    c.first-at.result c.requires.graph.successors x_in c.first-at.ensures)
    c.requires.listed

pub loop-at-smaller : goal.loop-at-smaller
loop-at-smaller c =
    let pairs = c.args.graph.now.pairs.now in
    let x : ℕ = get_or c.args.list.now c.args.queue.next 0 in
    let x_in = listed_in c.args.marks.now c.args.list.now c.args.queue.count c.args.queue.next c.requires.listed c.requires.place c.requires.marks_length in
    let on = subst (λ (o : Option ℕ). IsReachingOn (walk pairs x o) (marked_list c.args.marks.now c.args.list.now c.args.queue.count)
    (marked_list c.loop-at.marks c.loop-at.list c.loop-at.count)) c.in-Some.is c.loop-at.invariant in
    let first = IsFirstFrom-next (length c.args.list.now) pairs c.args.graph.now.successors.now.lists x c.in-Some.number
    c.next-at.result c.requires.graph.successors x_in
    on.walked.first.1 on.walked.first.2 c.next-at.ensures in
    subst (λ (o : Option ℕ). left_after pairs c.next-at.result < left_after pairs o) (sym c.in-Some.is)
    (left_after-smaller pairs x c.in-Some.number c.next-at.result on.walked.first.1 first)

pub loop-at-preserved : goal.loop-at-preserved
loop-at-preserved c =
    let pairs = c.args.graph.now.pairs.now in
    let x : ℕ = get_or c.args.list.now c.args.queue.next 0 in
    let x_in = listed_in c.args.marks.now c.args.list.now c.args.queue.count c.args.queue.next c.requires.listed c.requires.place c.requires.marks_length in
    let on = subst (λ (o : Option ℕ). IsReachingOn (walk pairs x o) (marked_list c.args.marks.now c.args.list.now c.args.queue.count)
    (marked_list c.loop-at.marks c.loop-at.list c.loop-at.count)) c.in-Some.is c.loop-at.invariant in
    let first = IsFirstFrom-next (length c.args.list.now) pairs c.args.graph.now.successors.now.lists x c.in-Some.number
    c.next-at.result c.requires.graph.successors x_in
    on.walked.first.1 on.walked.first.2 c.next-at.ensures in
    let one = c.list_one-count in
    IsReachingOn-step pairs x c.args.marks.now c.loop-at.marks one.new.marks c.args.list.now c.loop-at.list one.new.list c.args.queue.count c.loop-at.count
    one.result c.in-Some.number
    c.next-at.result on first one.ensures.listed one.ensures.kept one.ensures.from one.ensures.marked one.ensures.same one.ensures.no_fewer

pub returns-clause-after : goal.returns-clause-after
returns-clause-after c = λ differ.
    HasPassed-end c.args.graph.now.pairs.now (get_or c.args.list.now c.args.queue.next 0) c.loop-at.at
    (λ w. IsMarked c.loop-at.marks w) c.loop-at.invariant.walked
    c.in_default.not-Some
