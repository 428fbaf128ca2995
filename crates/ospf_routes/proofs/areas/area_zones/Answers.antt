use Rattle.std.proofs.lemmas.Result.{IfOk-weaker}
use Rattle.ospf_routes.proofs.AreaFacts.{zones_are}
use Rattle.ospf_routes.proofs.areas.area_zones.Goals as goal

pub returns : goal.returns
returns c =
    IfOk-weaker c.zones_of.result _ _ (λ zones are. zones_are c.args.net.now c.in_ok-numbers.numbers.items c.as_slice.result.now zones.items
    c.as_slice.ensures.value c.in_ok-numbers.ensures.numbers are) c.zones_of.ensures
