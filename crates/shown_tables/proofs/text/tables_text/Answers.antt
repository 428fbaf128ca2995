use Rattle.std.proofs.Common.{ℕ, [], length, sym, subst, arith, ◌≡◌}
use Rattle.net_model.specs.RouterNames.{names_of}
use Rattle.igp_theory.specs.Migrations.{Migration, listed_migration}
use Rattle.shown_tables.specs.steps.Shown.{IsOfRouterBelow, Shows}
use Rattle.shown_tables.proofs.InOrder.{all_shown, shows_more, shows_none}
use Rattle.shown_tables.proofs.text.tables_text.Goals as goal

pub loop-router-init : goal.loop-router-init
loop-router-init g c =
    let move : Migration = listed_migration c.args.net.now (g.O.RouteSource.table c.args.old.now)
    (g.N.RouteSource.table c.args.new.now) in
    subst (Shows (names_of c.args.net.now) (IsOfRouterBelow move 0) []) (sym c.new-text.ensures.items) (shows_none
    (names_of c.args.net.now) move)

pub loop-router-preserved : goal.loop-router-preserved
loop-router-preserved g c =
    shows_more (listed_migration c.args.net.now (g.O.RouteSource.table c.args.old.now)
    (g.N.RouteSource.table c.args.new.now)) c.loop-router.router
    c.loop-router.invariant c.in_ok-add_router.ensures

pub returns : goal.returns
returns g c =
    let move : Migration = listed_migration c.args.net.now (g.O.RouteSource.table c.args.old.now)
    (g.N.RouteSource.table c.args.new.now) in
    let done : c.loop-router.router ≡ length c.args.net.now = omega (arith, c.routers-router-end.ensures.count) in
    all_shown move _ (subst (Shows (names_of c.args.net.now) (IsOfRouterBelow move (length c.args.net.now)) []) (sym c.from_vec.ensures)
    (subst (λ (n : ℕ). Shows (names_of c.args.net.now) (IsOfRouterBelow move n) [] c.loop-router.text.items) done
    c.loop-router.invariant))
