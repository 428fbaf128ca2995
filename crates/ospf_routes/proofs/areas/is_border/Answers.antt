use Rattle.std.proofs.Common.{◌∙◌, ap}
use Rattle.net_model.specs.Configuration.{Configuration}
use Rattle.ospf_routes.proofs.AreaFacts.{border_by_other, no_area_no_border}
use Rattle.route_tables.proofs.ListFacts.{iff_then}
use Rattle.ospf_routes.proofs.areas.is_border.Goals as goal

pub returns-in-Some : goal.returns-in-Some
returns-in-Some c =
    iff_then c.some_runs_other.ensures (border_by_other c.args.net.now c.args.u c.in-Some.number c.config.result.now c.as_slice-interfaces.result.now
    c.config.ensures.router (c.as_slice-interfaces.ensures ∙ ap (λ (d : Configuration). d.interfaces) c.behind-net.view_is) c.in-Some.ensures)

pub returns-in-None : goal.returns-in-None
returns-in-None c =
    no_area_no_border c.args.net.now c.args.u c.config.result.now c.as_slice-interfaces.result.now c.config.ensures.router
    (c.as_slice-interfaces.ensures ∙ ap (λ (d : Configuration). d.interfaces) c.behind-net.view_is) c.in-None.ensures
