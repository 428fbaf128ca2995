use Rattle.igp_theory.specs.Migrations.{listed_migration}
use Rattle.shown_tables.proofs.InOrder.{shows_router}
use Rattle.shown_tables.proofs.text.add_router.Goals as goal

pub returns : goal.returns
returns g c =
    let old = g.O.RouteSource.table c.args.both.now.old.source.now in
    let new = g.N.RouteSource.table c.args.both.now.new.source.now in
    shows_router (listed_migration c.args.net.now old new) c.args.router (old c.args.router) (new c.args.router)
    (λ p e. (λ h. h, λ h. h)) (λ p e. (λ h. h, λ h. h)) c.in_ok-add_source.ensures c.in_ok-add_source-2.ensures
