use Rattle.std.proofs.Common.{arith}
use Rattle.net_model.proofs.NetworkFacts.{HasConfiguration-within}
use Rattle.route_tables.proofs.ListFacts.{below_step}
use Rattle.isis_routes.specs.steps.Routing.{RunsBothLevels, IsThisRouter}
use Rattle.isis_routes.proofs.RunFacts.{routers_all, where_added}
use Rattle.isis_routes.proofs.runs.routers_of_both_levels.Goals as goal

pub loop-u-preserved : goal.loop-u-preserved
loop-u-preserved c =
    below_step (IsThisRouter (RunsBothLevels c.args.net.now)) c.new-routers.result.items c.loop-u.routers.items c.push_option.new.all.items c.loop-u.u
    c.loop-u.invariant
    (where_added (RunsBothLevels c.args.net.now) c.loop-u.u c.runs_both_levels.result c.where_so.result c.loop-u.routers.items c.push_option.new.all.items
    c.runs_both_levels.ensures c.where_so.ensures c.in_ok-push_option.ensures.ok)

pub returns-clause-routers : goal.returns-clause-routers
returns-clause-routers c =
    routers_all c.args.net.now (RunsBothLevels c.args.net.now) c.new-routers.result.items c.loop-u.routers.items c.loop-u.u c.new-routers.ensures.items
    c.loop-u.invariant (omega (arith, c.routers-u-end.ensures.count)) (λ u is. HasConfiguration-within c.args.net.now u is.one.config is.one.router)
