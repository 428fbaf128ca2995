use Rattle.std.proofs.Common.{◌≤◌, length, sym, subst, arith, below_more}
use Rattle.ospf_pair.specs.NetworkPairs.{network_pair, StandsInOne}
use Rattle.ospf_pair.specs.PairRefusals.{IsLeastName}
use Rattle.ospf_pair.proofs.MissingNames.{HaveSameRouters-below, IsLeastName-from_lesser}
use Rattle.ospf_pair.proofs.least.least_missing.Goals as goal

pub returns-in-Some : goal.returns-in-Some
returns-in-Some c =
    let nets = network_pair c.args.old.now c.args.new.now in
    subst (IsLeastName (StandsInOne nets)) (sym c.in_ok-copied.ensures)
    (IsLeastName-from_lesser nets c.loop-router.router c.in-Some.name.now c.routers.ensures.network.ascending c.routers-2.ensures.network.ascending
    c.loop-router.invariant c.in-Some.ensures)

pub loop-router-preserved : goal.loop-router-preserved
loop-router-preserved c = below_more _ _ c.loop-router.invariant c.in_default.ensures

pub returns : goal.returns
returns c =
    HaveSameRouters-below (network_pair c.args.old.now c.args.new.now) c.loop-router.router
    (let l : length c.args.old.now ≤ c.loop-router.router = omega arith in l)
    (let l : length c.args.new.now ≤ c.loop-router.router = omega arith in l)
    c.loop-router.invariant
