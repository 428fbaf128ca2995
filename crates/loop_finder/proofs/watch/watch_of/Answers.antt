use Rattle.loop_finder.proofs.WatchLaws.{IsWatch-more}
use Rattle.loop_finder.proofs.watch.watch_of.Goals as goal

pub loop-router-preserved : goal.loop-router-preserved
loop-router-preserved c = IsWatch-more c.args.parts.now c.loop-router.router c.loop-router.watch.items _ c.in_ok-places.places c.in_ok-push.ensures.items
    c.loop-router.invariant c.in_ok-places.ensures
