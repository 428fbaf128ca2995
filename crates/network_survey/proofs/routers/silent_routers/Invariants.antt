use Rattle.network_survey.specs.Routers.{IsSilent, ListsNumbers}
use Rattle.network_survey.specs.steps.RouterLists.{IsRouterBelow}
use Rattle.network_survey.proofs.routers.silent_routers.Given as goal

abbrev pub invariant-loop-router : goal.invariant-loop-router
invariant-loop-router l = ListsNumbers (IsRouterBelow (IsSilent l.net) l.router) l.found.items
