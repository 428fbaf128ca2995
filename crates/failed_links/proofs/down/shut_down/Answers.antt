use Rattle.failed_links.specs.ShutDown.{shut_router}
use Rattle.failed_links.proofs.DownFacts.{map_more}
use Rattle.failed_links.proofs.down.shut_down.Goals as goal

pub loop-router-preserved : goal.loop-router-preserved
loop-router-preserved c =
    map_more (shut_router c.args.link) c.args.net.now c.loop-router.router c.config.result.now c.loop-router.configs.items
    c.push.new.self.items c.in_ok-shut_router.field-0 c.config.ensures.router c.loop-router.invariant c.in_ok-shut_router.ensures
    c.in_ok-push.ensures.items
