use Rattle.std.proofs.Common.{refl, ℕ}
use Rattle.net_model.specs.declared.interface.Interface.{Interface}
use Rattle.net_addr.proofs.SomeElement.{any_of}
use Rattle.route_tables.proofs.ListFacts.{contains_at, within_more}
use Rattle.net_model.specs.Network.{RunsArea}
use Rattle.ospf_routes.proofs.areas.first_area.Goals as goal

pub returns-in-Some : goal.returns-in-Some
returns-in-Some c =
    any_of (λ (i : Interface). RunsArea c.in-Some.number i) c.args.interfaces.now c.interface-item.result
    (contains_at c.args.interfaces.now c.loop-interface.interface-index c.interface-item.result c.loop-interface-test.true c.interface-item.is)
    ((c.in-Some.ensures c.in-Some.number).0 refl)

pub loop-interface-preserved : goal.loop-interface-preserved
loop-interface-preserved c =
    within_more (λ (i : Interface). (n : ℕ) → RunsArea n i → ⊥)
    c.args.interfaces.now c.loop-interface.interface-index c.interface-item.result c.loop-interface-test.true c.interface-item.is
    c.loop-interface.invariant (λ n runs. c.in_default.not-Some n ((c.area_of.ensures n).1 runs))
