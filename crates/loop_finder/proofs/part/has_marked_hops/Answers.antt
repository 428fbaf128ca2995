use Rattle.igp_theory.specs.declared.phase.Phase.{Phase}
use Rattle.igp_theory.specs.declared.phase.Phase.TheVariants.{Old, Middle, New}
use Rattle.loop_finder.specs.Mixes.{mix_of, ClassIn, class_in}
use Rattle.loop_finder.specs.Parts.{PhaseHops, hops_of}
use Rattle.loop_finder.specs.steps.Making.{IsHopsOf}
use Rattle.loop_finder.proofs.OnFalse.{on_true_three}
use Rattle.loop_finder.proofs.PartRows.{row_has}
use Rattle.loop_finder.proofs.part.has_marked_hops.Goals as goal

pub returns : goal.returns
returns g c = on_true_three c.has_all.result c.has_all.ensures.old c.has_all.ensures.middle c.has_all.ensures.new
    (row_has here c.args.marks.now c.args.router c.args.row.now own c.next_hops.ensures.least are)
  where
    here : ClassIn
    here = class_in (mix_of g.O.RouteSource.table g.N.RouteSource.table c.args.mixed.now) c.args.atom

    own : PhaseHops
    own = record { old = c.next_hops.result.now; middle = c.next_hops-2.result.now; new = c.next_hops-3.result.now }

    are : (phase : Phase) → IsHopsOf here c.args.router phase (hops_of own phase)
    are Old = c.next_hops.ensures.hops
    are Middle = c.next_hops-2.ensures.hops
    are New = c.next_hops-3.ensures.hops
