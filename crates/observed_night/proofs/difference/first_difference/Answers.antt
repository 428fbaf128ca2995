use Rattle.std.proofs.Common.{◌≤◌, length, arith, below_more}
use Rattle.observed_night.proofs.SightFacts.{least_at, night_of}
use Rattle.observed_night.proofs.difference.first_difference.Goals as goal

pub returns-in-Some-clause-difference : goal.returns-in-Some-clause-difference
returns-in-Some-clause-difference c =
    least_at c.args.before.now c.args.now.now c.loop-router.router c.routers.ensures.network.ascending c.routers-2.ensures.network.ascending
    c.loop-router.invariant c.in-Some.found.name.now c.in-Some.ensures

pub loop-router-preserved : goal.loop-router-preserved
loop-router-preserved c = below_more _ _ c.loop-router.invariant c.in_default.ensures

pub returns-clause-difference : goal.returns-clause-difference
returns-clause-difference c =
    night_of c.args.before.now c.args.now.now c.loop-router.router
    (let l : length c.args.before.now ≤ c.loop-router.router = omega arith in l)
    (let l : length c.args.now.now ≤ c.loop-router.router = omega arith in l)
    c.loop-router.invariant
