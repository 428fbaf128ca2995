use Rattle.std.proofs.Common.{ℕ, get_or, subst, below_more}
use Rattle.order_core.specs.Marks.{IsMarked}
use Rattle.loop_finder.specs.Mixes.{Mix, mix_of}
use Rattle.loop_finder.specs.Parts.{PhaseHops, no_hops}
use Rattle.loop_finder.specs.steps.PartRows.{ActsAlikeAt}
use Rattle.loop_finder.proofs.part.act_alike.Goals as goal

pub loop-router-preserved : goal.loop-router-preserved
loop-router-preserved g c =
    let m : Mix = mix_of g.O.RouteSource.table g.N.RouteSource.table c.args.mixed.now in
    below_more (λ (u : ℕ). IsMarked c.args.marks.now u
    → ActsAlikeAt m (get_or c.args.rows.now u no_hops) u c.args.classes.0 c.args.classes.1) c.loop-router.router c.loop-router.invariant
    (subst (λ (row : PhaseHops). IsMarked c.args.marks.now c.loop-router.router
    → ActsAlikeAt m row c.loop-router.router c.args.classes.0 c.args.classes.1) c.at.ensures c.if-not-acts_alike.ensures)
