use Rattle.std.proofs.Common.{List, subst, rules}
use Rattle.net_addr.specs.Addresses.{Block}
use Rattle.route_core.specs.Rows.{listed}
use Rattle.route_core.specs.declared.entry.Entry.{Entry}
use Rattle.used_routes.specs.UsedRoutes.{usable_at}
use Rattle.used_routes.specs.declared.used.Origin.TheVariants as origin
use Rattle.used_routes.specs.steps.Found.{HasNone, IsBestUsed, OfNew}
use Rattle.used_routes.proofs.OwnRoutes.{new_best, new_none}
use Rattle.used_routes.proofs.used.Sources.of_new.Goals as goal

pub returns-in_default-clause-found : goal.returns-in_default-clause-found
returns-in_default-clause-found g c =
    let old = g.O.RouteSource.table c.args.self.now.old.now c.args.router in
    subst (λ (t : List (Block × Entry)). HasNone (OfNew t c.args.phase) c.args.a) c.table-table.ensures.entries
    (new_none old (listed c.table-table.result.now) c.args.phase c.args.a c.in_default.ensures.none)

pub returns-clause-found : goal.returns-clause-found
returns-clause-found g c =
    let old = g.O.RouteSource.table c.args.self.now.old.now c.args.router in
    subst (λ (t : List (Block × Entry)). IsBestUsed (usable_at old t) (OfNew t c.args.phase) c.args.a
    (record { prefix = c.dest.result; distance = 115; origin = origin.New c.in-Some.place })) c.table-table.ensures.entries
    (new_best old (listed c.table-table.result.now) c.args.phase c.args.a c.in-Some.place c.dest.result c.dest.ensures.0
    (c.new_counts.ensures.0 (search rules)) c.in-Some.ensures.found c.dest.ensures.1)
