use Rattle.std.proofs.Common.{List, sym, subst, ◌∙◌}
use Rattle.order_core.specs.Turns.{HasBothTags}
use Rattle.igp_theory.specs.Migrations.{Migration}
use Rattle.order_core.specs.declared.turn.Turn.{Turn}
use Rattle.plan_theory.specs.Numbers.{AreNumbered}
use Rattle.refutation_check.specs.steps.Judged.{started_of}
use Rattle.refutation_check.proofs.ReadingFacts.{branch_taken, leaf_taken, numbers_have_both}
use Rattle.refutation_check.proofs.reading.take_node.Goals as goal

pub enter-requires-clause-both : goal.enter-requires-clause-both
enter-requires-clause-both g c =
    let move : Migration = started_of g.O.RouteSource.table g.N.RouteSource.table c.args.asked.now.mixed.now c.args.asked.now.start.now in
    subst HasBothTags (sym c.as_slice-in-None-2.ensures)
    (numbers_have_both c.args.asked.now.items move c.as_slice-in-None.result.now c.in_ok-numbered-in-None.numbered
    c.in_ok-numbered-in-None.ensures.numbered.ring
    (subst HasBothTags (c.as_slice.ensures ∙ sym c.as_slice-in-None.ensures) c.in-None.ensures.right.both))

pub returns-in_ok-enter-in-None-clause-taken : goal.returns-in_ok-enter-in-None-clause-taken
returns-in_ok-enter-in-None-clause-taken g c = λ place left is.
    let items = c.args.asked.now.items in
    let move : Migration = started_of g.O.RouteSource.table g.N.RouteSource.table c.args.asked.now.mixed.now c.args.asked.now.start.now in
    let named = c.as_slice-in-None.result.now in
    let numbered = c.as_slice-in-None-2.result.now in
    branch_taken items move place left c.in_ok-enter-in-None.field-0.left c.args.node.now c.in-Branch.address c.in-Branch.turns
    c.as_slice.result.now named numbered c.in-Branch.is c.as_slice.ensures c.requires.ringed c.in-None.ensures.right
    (subst (λ (l : List Turn). AreNumbered items move c.in-Branch.address named l) (sym c.as_slice-in-None-2.ensures)
    c.in_ok-numbered-in-None.ensures.numbered) c.as_slice-in-None.ensures (c.in_ok-enter-in-None.ensures.left place left is)

pub returns-in_ok-leave-in-Leaf-clause-taken : goal.returns-in_ok-leave-in-Leaf-clause-taken
returns-in_ok-leave-in-Leaf-clause-taken g c = λ place left is.
    leaf_taken c.args.asked.now.items
    (started_of g.O.RouteSource.table g.N.RouteSource.table c.args.asked.now.mixed.now c.args.asked.now.start.now) place
    left c.in_ok-leave-in-Leaf.field-0.left c.args.node.now c.in-Leaf.cycle
    c.as_slice-in-Leaf.result.now c.in-Leaf.is c.as_slice-in-Leaf.ensures c.requires.ringed
    ((c.assumes_round.ensures place left is).0 c.if-assumes_round.true) (c.in_ok-leave-in-Leaf.ensures.left place left is)
