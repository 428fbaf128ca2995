use Rattle.std.proofs.Common.{List, sym, subst}
use Rattle.order_core.specs.declared.turn.Turn.{Turn}
use Rattle.plan_theory.specs.Numbers.{AreNumbered}
use Rattle.plan_theory.proofs.NumberedTurns.{turns_must}
use Rattle.refutation_check.specs.steps.Judged.{started_of}
use Rattle.igp_theory.specs.Phases.{state_in}
use Rattle.refutation_check.proofs.numbered.numbered.Goals as goal

pub number_turns-requires-clause-must : goal.number_turns-requires-clause-must
number_turns-requires-clause-must g c =
    turns_must (started_of g.O.RouteSource.table g.N.RouteSource.table c.args.asked.now.mixed.now c.args.asked.now.start.now)
    c.args.address c.args.turns.now c.requires.right.tags

pub returns-clause-numbered : goal.returns-clause-numbered
returns-clause-numbered g c =
    subst (λ (l : List Turn). AreNumbered c.args.asked.now.items
    (started_of g.O.RouteSource.table g.N.RouteSource.table c.args.asked.now.mixed.now c.args.asked.now.start.now) c.args.address
    c.args.turns.now l) (sym c.from_vec.ensures) (c.number_turns.ensures.numbered (state_in c.args.asked.now.start.now))
