use Rattle.std.proofs.Common.{arith, below_more}
use Rattle.net_model.proofs.RouterFacts.{IsLowest-from}
use Rattle.observed_night.specs.ShownPhases.{IsAstray}
use Rattle.observed_night.proofs.astray.first_astray.Goals as goal

pub returns-then-is_astray : goal.returns-then-is_astray
returns-then-is_astray c =
    IsLowest-from (IsAstray c.args.before.now c.args.now.now c.args.ranks.now) c.loop-router.router (c.is_astray.ensures.0 c.if-is_astray.true)
    c.loop-router.invariant

pub loop-router-preserved : goal.loop-router-preserved
loop-router-preserved c = below_more _ _ c.loop-router.invariant (λ astray.
    let yes = c.is_astray.ensures.1 astray in
    let not = c.if-is_astray.false in
    cc)

pub returns : goal.returns
returns c = λ u astray. let within = astray.router in c.loop-router.invariant u (omega (arith, within)) astray
