use Rattle.std.proofs.Common.{Option, IfSome, sym, subst}
use Rattle.used_routes.specs.UsedRoutes.{IsOfTables, usable_at}
use Rattle.used_routes.specs.declared.used.UsedRoute.{UsedRoute}
use Rattle.used_routes.specs.steps.Found.{IsFoundUsed, OfConnected, OfNew, OfOld}
use Rattle.used_routes.proofs.BestRoutes.{Either, better_found, better_within}
use Rattle.used_routes.proofs.OwnRoutes.{found_none, found_used}
use Rattle.used_routes.proofs.used.Sources.used_route.Goals as goal

pub returns : goal.returns
returns g c =
    let net = c.args.self.now.net.now in
    let u = c.args.router in
    let a = c.args.a in
    let old = g.O.RouteSource.table c.args.self.now.old.now in
    let new = g.N.RouteSource.table c.args.self.now.new.now in
    let own = usable_at (old u) (new u) in
    let C = OfConnected net u in
    let O = OfOld net (old u) u c.args.phase in
    let N = OfNew (new u) c.args.phase in
    let both = subst (λ (found : Option UsedRoute). IsFoundUsed own (Either O N) a found) (sym c.better.ensures)
    (better_found own O N a _ _ c.of_old-old.ensures.found c.of_new-new.ensures.found) in
    let all = subst (λ (found : Option UsedRoute). IsFoundUsed own (Either C (Either O N)) a found) (sym c.better-2.ensures)
    (better_found own C (Either O N) a _ _ c.connected-connected.ensures.found both) in
    let P = IsOfTables (old u) (new u) in
    let within = subst (λ (found : Option UsedRoute). IfSome found (λ r. P r.origin)) (sym c.better.ensures)
    (better_within P _ _ c.of_old-old.ensures.within c.of_new-new.ensures.within) in
    record {
      none = found_none net old new u c.args.phase a c.better-2.result all;
      used = found_used net old new u c.args.phase a c.better-2.result all;
      within = subst (λ (found : Option UsedRoute). IfSome found (λ r. P r.origin)) (sym c.better-2.ensures)
          (better_within P _ _ c.connected-connected.ensures.within within);
    }
