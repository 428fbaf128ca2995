use Rattle.std.proofs.Common.{◌↔◌, Bool, IsTrue, sym, subst}
use Rattle.std.proofs.lemmas.Bool.{false≢true}
use Rattle.isis_routes.specs.steps.Attached.{LeadsOutside}
use Rattle.isis_routes.proofs.AreaFacts.{outside_by_distance}
use Rattle.isis_routes.proofs.attached.leads_outside.Goals as goal

pub returns : goal.returns
returns c =
    let Goal : Bool → Type 0 = λ b. IsTrue b ↔ LeadsOutside c.args.net.now c.args.router c.args.other in
    subst Goal (sym c.is_some.ensures)
    (outside_by_distance c.args.net.now c.args.router c.args.other c.config.result.now c.config-2.result.now c.from_router.result.now c.config.ensures.router
    c.config-2.ensures.router
    (λ same. false≢true (c.if-have_one_area.ensures.1 same))
    (c.requires.walks.least c.args.router c.from_router.result.now c.from_router.ensures) c.distance.result c.distance.ensures)
