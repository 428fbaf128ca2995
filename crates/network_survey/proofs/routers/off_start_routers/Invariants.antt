use Rattle.network_survey.specs.Routers.{IsOff, ListsNumbers}
use Rattle.network_survey.specs.steps.RouterLists.{IsRouterBelow}
use Rattle.network_survey.proofs.routers.off_start_routers.Given as goal

abbrev pub invariant-loop-router : goal.invariant-loop-router
invariant-loop-router l = ListsNumbers (IsRouterBelow (IsOff l.net) l.router) l.found.items
