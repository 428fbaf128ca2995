use Rattle.std.proofs.Common.{◌≡◌, ◌≢◌, ℕ, List, sym, ap, ◌∙◌, subst, rules}
use Rattle.net_addr.specs.Addresses.{Block}
use Rattle.net_model.specs.Configuration.{Configuration}
use Rattle.net_model.specs.declared.bounds.TheConstants.{MOST_DISTANCE}
use Rattle.route_core.specs.Rows.{listed}
use Rattle.route_core.specs.declared.entry.Entry.{Entry}
use Rattle.used_routes.specs.UsedRoutes.{usable_at}
use Rattle.used_routes.specs.declared.used.Origin.TheVariants as origin
use Rattle.used_routes.specs.steps.Found.{HasNone, IsBestUsed, OfOld}
use Rattle.used_routes.proofs.OwnRoutes.{old_best, old_installs_none, old_none}
use Rattle.used_routes.proofs.used.Sources.of_old.Goals as goal

pub returns-then-distance-clause-found : goal.returns-then-distance-clause-found
returns-then-distance-clause-found g c =
    let old = g.O.RouteSource.table c.args.self.now.old.now c.args.router in
    let config : Configuration = c.config.result.now in
    let same : c.behind-self.inside.distances.ospf ≡ config.distances.ospf = ap (λ
    (x : Configuration). x.distances.ospf) c.behind-self.view_is in
    old_installs_none c.args.self.now.net.now old old c.args.router c.args.phase c.args.a config c.config.ensures.router
    (sym same ∙ c.if-distance.true)

pub returns-in_default-clause-found : goal.returns-in_default-clause-found
returns-in_default-clause-found g c =
    let new = g.N.RouteSource.table c.args.self.now.new.now c.args.router in
    subst (λ (t : List (Block × Entry)). HasNone
    (OfOld c.args.self.now.net.now t c.args.router c.args.phase) c.args.a) c.table-table.ensures.entries
    (old_none c.args.self.now.net.now
    (listed c.table-table.result.now) new c.args.router c.args.phase c.args.a c.in_default.ensures.none)

pub returns-clause-found : goal.returns-clause-found
returns-clause-found g c =
    let new = g.N.RouteSource.table c.args.self.now.new.now c.args.router in
    let net = c.args.self.now.net.now in
    let config : Configuration = c.config.result.now in
    let same : c.behind-self.inside.distances.ospf ≡ config.distances.ospf = ap (λ
    (x : Configuration). x.distances.ospf) c.behind-self.view_is in
    let some : config.distances.ospf ≢ MOST_DISTANCE = λ e. c.if-distance.false (same ∙ e) in
    subst (λ (d : ℕ). IsBestUsed (usable_at (g.O.RouteSource.table c.args.self.now.old.now c.args.router) new)
    (OfOld net (g.O.RouteSource.table c.args.self.now.old.now c.args.router) c.args.router c.args.phase) c.args.a
    (record { prefix = c.dest.result; distance = d; origin = origin.Old c.in-Some.place })) (sym same)
    (subst (λ (t : List (Block × Entry)). IsBestUsed (usable_at t new) (OfOld net t c.args.router c.args.phase) c.args.a
    (record { prefix = c.dest.result; distance = config.distances.ospf; origin = origin.Old c.in-Some.place }))
    c.table-table.ensures.entries
    (old_best net (listed c.table-table.result.now) new c.args.router c.args.phase c.args.a config c.in-Some.place
    c.dest.result c.dest.ensures.0
    (c.old_counts.ensures.0 (search rules)) c.config.ensures.router some c.in-Some.ensures.found c.dest.ensures.1))
