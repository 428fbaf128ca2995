use Rattle.std.proofs.Common.{[]}
use Rattle.drawn_network.specs.LinkEnds.{router_ends}
use Rattle.drawn_network.proofs.Numbered.{numbered_more}
use Rattle.drawn_network.proofs.ends.ends_of.Goals as goal

pub loop-router-preserved : goal.loop-router-preserved
loop-router-preserved c =
    numbered_more (router_ends c.args.net.now) [] c.loop-router.ends.items c.push_ends.new.ends.items c.loop-router.router
    c.in_ok-push_ends.ensures c.loop-router.invariant
