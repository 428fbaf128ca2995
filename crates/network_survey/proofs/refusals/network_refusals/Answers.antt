use Rattle.std.proofs.Common.{◌≡◌, ◌≢◌, ℕ, Result, Ok, Err, IfErr, sym, subst}
use Rattle.std.proofs.lemmas.Result.{IfOk-weaker}
use Rattle.net_model.specs.Refusals.{MayStand, Stands, place_of}
use Rattle.net_model.specs.Network.{Network}
use Rattle.net_model.specs.declared.refusal.NetRefusal.{NetRefusal}
use Rattle.net_model.specs.declared.refusal.NetRefusal.TheVariants.{OutOfMemory}
use Rattle.network_survey.specs.steps.Kept.{ListsAbove}
use Rattle.network_survey.proofs.KeptFacts.{ListsAbove-first, ListsAbove-more}
use Rattle.network_survey.proofs.StandFacts.{one_stands, place_of-stands}
use Rattle.network_survey.proofs.StandFacts.{none_by_addresses, none_by_areas, none_by_borders, none_by_ospf_costs, none_by_isis_metrics, none_by_systems, none_by_stubs}
use Rattle.network_survey.proofs.refusals.network_refusals.Goals as goal

err_weaker : {T : Type 0} → (place : ℕ) (net : Network) (r : Result T NetRefusal) → IfErr r (λ e. MayStand place e net) →
    IfErr r (λ e. e ≢ OutOfMemory → (place_of e ≡ place) × Stands e net × ((x : NetRefusal) → place_of x ≡ place → Stands x net → e ≡ x))
err_weaker place net (Ok x) m = m
err_weaker place net (Err e) m = one_stands place net e m

pub returns : goal.returns
returns c =
    let net = c.args.configs.now in
    let P : NetRefusal → Type 0 = λ r. Stands r net in
    let l4 = subst (ListsAbove P 4) (sym c.new-found.ensures.items) (ListsAbove-first P 4 (λ r s. (place_of-stands net r s).0)) in
    let l5 = ListsAbove-more P 4 c.check_addresses.result c.new-found.result.items c.keep.new.found.items
    (IfOk-weaker c.check_addresses.result _ _ (λ x holds. none_by_addresses net holds) c.check_addresses.ensures.ok) (err_weaker 4 net c.check_addresses.result c.check_addresses.ensures.err)
    l4 c.in_ok-keep.ensures in
    let l6 = ListsAbove-more P 5 c.check_areas.result c.keep.new.found.items c.keep-2.new.found.items
    (IfOk-weaker c.check_areas.result _ _ (λ x holds. none_by_areas net holds) c.check_areas.ensures.ok) (err_weaker 5 net c.check_areas.result c.check_areas.ensures.err)
    l5 c.in_ok-keep-2.ensures in
    let l7 = ListsAbove-more P 6 c.check_borders.result c.keep-2.new.found.items c.keep-3.new.found.items
    (IfOk-weaker c.check_borders.result _ _ (λ x holds. none_by_borders net holds) c.check_borders.ensures.ok) (err_weaker 6 net c.check_borders.result c.check_borders.ensures.err)
    l6 c.in_ok-keep-3.ensures in
    let l8 = ListsAbove-more P 7 c.check_ospf_costs.result c.keep-3.new.found.items c.keep-4.new.found.items
    (IfOk-weaker c.check_ospf_costs.result _ _ (λ x holds. none_by_ospf_costs net holds) c.check_ospf_costs.ensures.ok) (err_weaker 7 net c.check_ospf_costs.result c.check_ospf_costs.ensures.err)
    l7 c.in_ok-keep-4.ensures in
    let l9 = ListsAbove-more P 8 c.check_isis_metrics.result c.keep-4.new.found.items c.keep-5.new.found.items
    (IfOk-weaker c.check_isis_metrics.result _ _ (λ x holds. none_by_isis_metrics net holds) c.check_isis_metrics.ensures.ok) (err_weaker 8 net c.check_isis_metrics.result c.check_isis_metrics.ensures.err)
    l8 c.in_ok-keep-5.ensures in
    let l10 = ListsAbove-more P 9 c.check_systems.result c.keep-5.new.found.items c.keep-6.new.found.items
    (IfOk-weaker c.check_systems.result _ _ (λ x holds. none_by_systems net holds) c.check_systems.ensures.ok) (err_weaker 9 net c.check_systems.result c.check_systems.ensures.err)
    l9 c.in_ok-keep-6.ensures in
    let l11 = ListsAbove-more P 10 c.check_stubs.result c.keep-6.new.found.items c.keep-7.new.found.items
    (IfOk-weaker c.check_stubs.result _ _ (λ x holds. none_by_stubs net holds) c.check_stubs.ensures.ok) (err_weaker 10 net c.check_stubs.result c.check_stubs.ensures.err)
    l10 c.in_ok-keep-7.ensures in
    l11
