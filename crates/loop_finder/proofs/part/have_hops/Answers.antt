use Rattle.std.proofs.Common.{ℕ, get_or, subst, below_more}
use Rattle.loop_finder.specs.Mixes.{ClassIn, mix_of, class_in}
use Rattle.loop_finder.specs.Parts.{PhaseHops, no_hops}
use Rattle.loop_finder.specs.steps.PartRows.{HasHops}
use Rattle.loop_finder.proofs.part.have_hops.Goals as goal

pub loop-router-preserved : goal.loop-router-preserved
loop-router-preserved g c =
    let here : ClassIn = class_in (mix_of g.O.RouteSource.table g.N.RouteSource.table c.args.mixed.now) c.args.atom in
    below_more (λ (u : ℕ). HasHops here c.args.marks.now u (get_or c.args.rows.now u no_hops)) c.loop-router.router c.loop-router.invariant
    (subst (λ (row : PhaseHops). HasHops here c.args.marks.now c.loop-router.router row) c.at.ensures c.if-not-has_hops.ensures)
