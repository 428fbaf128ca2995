use Rattle.std.proofs.Common.{◌∙◌, ap, arith}
use Rattle.net_model.specs.Configuration.{Configuration}
use Rattle.ospf_routes.proofs.AreaFacts.{numbers_more, numbers_all}
use Rattle.ospf_routes.proofs.areas.area_numbers.Goals as goal

pub loop-u-preserved : goal.loop-u-preserved
loop-u-preserved c =
    numbers_more c.args.net.now c.loop-u.u c.config.result.now c.as_slice.result.now c.loop-u.numbers.items c.add_areas.new.numbers.items
    c.config.ensures.router (c.as_slice.ensures ∙ ap (λ (d : Configuration). d.interfaces) c.behind-net.view_is)
    c.loop-u.invariant c.in_ok-add_areas.ensures

pub returns-clause-numbers : goal.returns-clause-numbers
returns-clause-numbers c =
    numbers_all c.args.net.now c.loop-u.u c.loop-u.numbers.items (omega (arith, c.routers-u-end.ensures.count)) c.loop-u.invariant
