use Rattle.std.proofs.Common.{[]}
use Rattle.net_model.specs.RouterNames.{names_of}
use Rattle.igp_theory.specs.Migrations.{listed_migration}
use Rattle.shown_tables.specs.steps.Shown.{IsOfRouterBelow, Shows}
use Rattle.shown_tables.proofs.text.tables_text.Given as goal

abbrev pub invariant-loop-router : goal.invariant-loop-router
invariant-loop-router g l =
    Shows (names_of l.net) (IsOfRouterBelow (listed_migration l.net (g.O.RouteSource.table l.old)
    (g.N.RouteSource.table l.new)) l.router) [] l.text.items
