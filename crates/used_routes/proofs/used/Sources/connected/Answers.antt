use Rattle.used_routes.proofs.OwnRoutes.{connected_best}
use Rattle.used_routes.proofs.used.Sources.connected.Goals as goal

pub returns-clause-found : goal.returns-clause-found
returns-clause-found g c =
    connected_best (g.O.RouteSource.table c.args.self.now.old.now c.args.router)
    (g.N.RouteSource.table c.args.self.now.new.now c.args.router) _
    c.args.router c.args.a _ c.in-Some.ensures
