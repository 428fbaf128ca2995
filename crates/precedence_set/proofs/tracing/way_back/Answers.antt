-- The walk goes on to the lowest marked router after the last one, or back, until it is at u.
use Rattle.std.proofs.lemmas.Grind.{common_steps}
use Rattle.std.proofs.Common.{◌≡◌, ◌≢◌, true, false, Option, Some, eqb, length, length-set, arith, refl, ap, ◌∙◌, ℕ}
use Rattle.std.specs.Option.{option_eq}
use Rattle.std.proofs.lemmas.Bool.{eq-eqb, eqb-true, false≢true}
use Rattle.precedence_set.proofs.TraceFacts.{IsWalking-end, IsWalking-step, IsLowestAhead-found, room_for_found, step_is_nearer}
use Rattle.precedence_set.proofs.tracing.way_back.Goals as goal

some_from_eq : (next : Option ℕ) (u : ℕ) → true ≡ option_eq eqb next (Some u) → next ≡ Some u
some_from_eq next u e = grind (arith, common_steps, eqb-true, false≢true)

differs_from_eq : (next : Option ℕ) (u : ℕ) → false ≡ option_eq eqb next (Some u) → next ≢ Some u
differs_from_eq next u e same = false≢true (e ∙ ap (λ (o : Option ℕ). option_eq eqb o (Some u)) same ∙ eq-eqb u u refl)

pub returns-then-eq-clause-closes : goal.returns-then-eq-clause-closes
returns-then-eq-clause-closes c =
    let next = c.lowest_marked_after-next in
    let ahead = IsLowestAhead-found c.args.graph.now.pairs.now c.loop-count.marks _ c.args.u next.result (some_from_eq next.result c.args.u c.if-eq.ensures)
    next.ensures.after next.ensures.lowest in
    (IsWalking-end _ c.args.graph.now.pairs.now c.args.u c.args.v c.loop-count.marks c.loop-count.path c.loop-count.count
    (omega (arith, c.loop-count-test.true))
    c.loop-count.invariant ahead).1

pub returns-then-eq-clause-cycle : goal.returns-then-eq-clause-cycle
returns-then-eq-clause-cycle c =
    let next = c.lowest_marked_after-next in
    let ahead = IsLowestAhead-found c.args.graph.now.pairs.now c.loop-count.marks _ c.args.u next.result (some_from_eq next.result c.args.u c.if-eq.ensures)
    next.ensures.after next.ensures.lowest in
    (IsWalking-end _ c.args.graph.now.pairs.now c.args.u c.args.v c.loop-count.marks c.loop-count.path c.loop-count.count
    (omega (arith, c.loop-count-test.true))
    c.loop-count.invariant ahead).0

pub step-count-requires-clause-room : goal.step-count-requires-clause-room
step-count-requires-clause-room c =
    let next = c.lowest_marked_after-next in
    room_for_found (length c.args.path.now) c.args.graph.now.pairs.now c.requires.graph.below c.requires.acyclic c.args.u c.args.v c.loop-count.marks
    c.loop-count.path c.loop-count.count
    (omega (arith, length-set {A = ℕ})) c.loop-count.invariant next.result (differs_from_eq next.result c.args.u c.if-eq.ensures) next.ensures.after

pub loop-count-smaller : goal.loop-count-smaller
loop-count-smaller c =
    let next = c.lowest_marked_after-next in
    let room = room_for_found (length c.args.path.now) c.args.graph.now.pairs.now c.requires.graph.below c.requires.acyclic c.args.u c.args.v c.loop-count.marks
    c.loop-count.path c.loop-count.count
    (omega (arith, length-set {A = ℕ})) c.loop-count.invariant next.result (differs_from_eq next.result c.args.u c.if-eq.ensures) next.ensures.after in
    step_is_nearer _ c.args.graph.now.pairs.now c.args.u c.args.v c.loop-count.marks c.loop-count.path c.loop-count.count next.result c.step-count.new.marks
    c.step-count.new.path c.step-count.result
    (omega (arith, c.loop-count-test.true)) c.loop-count.invariant room
    (record {
      longer = c.step-count.ensures.longer;
      added = c.step-count.ensures.added;
      kept = c.step-count.ensures.kept;
      shorter = c.step-count.ensures.shorter;
      same = c.step-count.ensures.same;
      taken = c.step-count.ensures.taken;
    })

pub loop-count-preserved : goal.loop-count-preserved
loop-count-preserved c =
    let next = c.lowest_marked_after-next in
    IsWalking-step (length c.args.path.now) c.args.graph.now.pairs.now c.requires.graph.below c.requires.acyclic c.args.u c.args.v c.loop-count.marks
    c.loop-count.path c.loop-count.count
    next.result c.step-count.new.marks c.step-count.new.path c.step-count.result (omega (arith, c.loop-count-test.true)) (omega (arith, length-set {A = ℕ}))
    (omega (arith, length-set {A = ℕ}))
    c.loop-count.invariant (differs_from_eq next.result c.args.u c.if-eq.ensures)
    (record { after = next.ensures.after; marked = next.ensures.marked; lowest = next.ensures.lowest; none = next.ensures.none })
    (record {
      longer = c.step-count.ensures.longer;
      added = c.step-count.ensures.added;
      kept = c.step-count.ensures.kept;
      shorter = c.step-count.ensures.shorter;
      same = c.step-count.ensures.same;
      taken = c.step-count.ensures.taken;
    })
