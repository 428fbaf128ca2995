use Rattle.std.proofs.Common.{arith}
use Rattle.net_model.proofs.NetworkFacts.{HasConfiguration-within}
use Rattle.route_tables.proofs.ListFacts.{below_step}
use Rattle.igp_theory.specs.Isis.{Leaks}
use Rattle.isis_routes.specs.steps.Routing.{IsThisRouter}
use Rattle.isis_routes.proofs.RunFacts.{routers_all, where_added}
use Rattle.isis_routes.proofs.runs.leaking_routers.Goals as goal

pub loop-u-preserved : goal.loop-u-preserved
loop-u-preserved c =
    below_step (IsThisRouter (Leaks c.args.net.now)) c.new-routers.result.items c.loop-u.routers.items c.push_option.new.all.items c.loop-u.u
    c.loop-u.invariant
    (where_added (Leaks c.args.net.now) c.loop-u.u c.leaks.result c.where_so.result c.loop-u.routers.items c.push_option.new.all.items
    c.leaks.ensures c.where_so.ensures c.in_ok-push_option.ensures.ok)

pub returns : goal.returns
returns c =
    routers_all c.args.net.now (Leaks c.args.net.now) c.new-routers.result.items c.loop-u.routers.items c.loop-u.u c.new-routers.ensures.items
    c.loop-u.invariant (omega (arith, c.routers-u-end.ensures.count)) (λ u is. HasConfiguration-within c.args.net.now u is.config is.router)
