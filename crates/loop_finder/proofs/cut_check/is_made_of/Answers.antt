use Rattle.std.proofs.Common.{arith, below_more}
use Rattle.loop_finder.specs.steps.Cuts.{IsCutAt}
use Rattle.loop_finder.proofs.PieceLaws.{made_by_cuts}
use Rattle.loop_finder.proofs.cut_check.is_made_of.Goals as goal

pub loop-router-preserved : goal.loop-router-preserved
loop-router-preserved c = below_more (IsCutAt c.args.cut.now.layers.now c.args.cut.now.owners.now.items
    c.args.cut.now.places.now.items c.args.cut.now.pieces.now.items c.args.part.now) c.loop-router.router
    c.loop-router.invariant c.if-not-is_cut_at.ensures

pub returns : goal.returns
returns c = made_by_cuts c.args.cut.now.layers.now c.args.cut.now.owners.now.items c.args.cut.now.places.now.items
    c.args.cut.now.pieces.now.items c.args.part.now
    (λ u within. c.loop-router.invariant u (omega (arith, within, c.requires.part, c.loop-router-test.false, c.loop-router.auto.router-end)))
    (λ k d within. let below = c.if-not-are_below.ensures k d within in
    omega (arith, below, c.len.ensures, c.args.cut.now.pieces.now.ok.0))
