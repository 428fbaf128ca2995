use Rattle.std.proofs.Common.{◌≡◌, map, take}
use Rattle.failed_links.specs.ShutDown.{shut_router}
use Rattle.failed_links.proofs.down.shut_down.Given as goal

abbrev pub invariant-loop-router : goal.invariant-loop-router
invariant-loop-router l = l.configs.items ≡ map (shut_router l.link) (take l.router l.net)
