use Rattle.std.proofs.Common.{◌≡◌, ◌+◌, length, subst, sym, arith}
use Rattle.network_survey.specs.Routers.{LacksOspf, IsSilent, ListsNumbers}
use Rattle.network_survey.specs.steps.RouterLists.{IsRouterBelow}
use Rattle.network_survey.proofs.RouterFacts.{ListsNumbers-none, ListsNumbers-more, ListsNumbers-all}
use Rattle.network_survey.proofs.routers.silent_routers.Goals as goal

pub loop-router-init : goal.loop-router-init
loop-router-init c = subst (ListsNumbers (IsRouterBelow (IsSilent c.args.net.now) 0)) (sym c.new-found.ensures.items) (ListsNumbers-none (IsSilent c.args.net.now))

pub loop-router-preserved : goal.loop-router-preserved
loop-router-preserved c =
    subst (ListsNumbers (IsRouterBelow (IsSilent c.args.net.now) (c.loop-router.router + 1))) (sym c.in_ok-add_if.ensures)
    (ListsNumbers-more LacksOspf c.args.net.now c.loop-router.router c.config.result.now c.config.ensures.router c.lacks_ospf.result c.lacks_ospf.ensures
    c.loop-router.found.items c.loop-router.invariant)

pub returns : goal.returns
returns c =
    let end : c.loop-router.router ≡ length c.args.net.now = omega arith in
    ListsNumbers-all LacksOspf c.args.net.now c.loop-router.found.items
    (subst (λ u. ListsNumbers (IsRouterBelow (IsSilent c.args.net.now) u) c.loop-router.found.items) end c.loop-router.invariant)
