use Rattle.std.proofs.Common.{◌≡◌}
use Rattle.prefix_atoms.proofs.Collected.{dests_more}
use Rattle.prefix_atoms.proofs.collect.add_net.Goals as goal

pub loop-router-preserved : goal.loop-router-preserved
loop-router-preserved c =
    let interfaces : c.as_slice.result.now ≡ c.config-config.result.now.interfaces = cc in
    let ranges : c.as_slice-in-loop-router.result.now ≡ c.config-config.result.now.ranges = cc in
    dests_more c.args.net.now c.loop-router.router c.config-config.result.now _ _ _ _ _ _ c.config-config.ensures.router interfaces ranges
    c.loop-router.invariant c.in_ok-add_connected.ensures c.in_ok-add_ranges.ensures
