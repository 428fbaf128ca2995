use Rattle.std.proofs.Common.{arith}
use Rattle.std.proofs.lemmas.Grind.{common_steps}
use Rattle.std.proofs.Common.{◌≡◌, ◌∙◌, ap, length, subst, sym}
use Rattle.net_model.specs.Network.{Network}
use Rattle.order_core.specs.Orders.{IsOrder}
use Rattle.order_core.specs.Rankings.{flat_of}
use Rattle.order_core.proofs.WaveLists.{flat_is_order}
use Rattle.migrate_cli.proofs.why.explain_order.Goals as goal

pub first_unsound_state-requires : goal.first_unsound_state-requires
first_unsound_state-requires c =
    let ranks = c.args.waves.now in
    let each : length ranks ≡ length c.args.mixed.now.net = c.requires.each ∙ ap (λ (net : Network). length net) (sym c.requires.mixes.net_is) in
    subst (IsOrder (length c.args.mixed.now.net)) (sym c.flat.ensures) (subst (λ n. IsOrder n (flat_of ranks)) each (flat_is_order ranks))

pub order_reasons-requires-clause-seamless : goal.order_reasons-requires-clause-seamless
order_reasons-requires-clause-seamless c = grind (arith, common_steps)

pub order_way-requires-clause-fault : goal.order_way-requires-clause-fault
order_way-requires-clause-fault c = grind (arith, common_steps)
