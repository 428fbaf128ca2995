use Rattle.std.proofs.Common.{arith}
use Rattle.std.proofs.lemmas.Grind.{common_steps}
use Rattle.std.proofs.Common.{◌≡◌, ◌∙◌, List, ℕ, ap, subst}
use Rattle.igp_theory.proofs.FaultLaws.{faulty_not_seamless}
use Rattle.net_model.specs.Network.{Network}
use Rattle.net_model.specs.Refusals.{IsNetwork}
use Rattle.net_model.specs.RouterNames.{names_of}
use Rattle.order_core.specs.Rankings.{flat_of}
use Rattle.plan_theory.specs.Plans.{fault_told}
use Rattle.explained_texts.specs.WayTexts.{IsWayText, order_span}
use Rattle.explained_texts.proofs.WayFaults.{order_stands}
use Rattle.migration_report.specs.Texts.{unsafe_text}
use Rattle.migrate_cli.specs.CheckDecision.IsOrderDecision.{unsafe}
use Rattle.migrate_cli.specs.ExplainedTexts.{TellsBehind}
use Rattle.migrate_cli.specs.ExplainedDecision.IsExplainedOrder.{order_way}
use Rattle.migrate_cli.specs.steps.Tables.{move_of}
use Rattle.migrate_cli.proofs.FaultFacts.{fault_below}
use Rattle.migrate_cli.proofs.TableFacts.{first_fault}
use Rattle.migrate_cli.proofs.why.order_way.Goals as goal

pub unsafe_text-requires : goal.unsafe_text-requires
unsafe_text-requires c = grind (arith, common_steps, fault_below)

pub with_way-requires-clause-fault : goal.with_way-requires-clause-fault
with_way-requires-clause-fault c = grind (arith, common_steps, order_stands)

pub returns : goal.returns
returns c =
    let of = c.args.tables.now in
    let told = c.args.told in
    let order = flat_of c.args.waves.now in
    let net_is : c.net-net.result.now ≡ of.net = c.net-net.ensures ∙ c.requires.mixes.net_is in
    let first = first_fault of c.args.mixed.now c.requires.mixes order told.0 (fault_told told.1.now) c.requires.fault in
    let tells = subst (λ (some : List ℕ). TellsBehind (IsWayText (move_of of) (order_span some told.0) (fault_told told.1.now))
    c.in_ok-first.first c.in_ok-text.text) c.flat-order.ensures c.in_ok-text.ensures in
    let begins : c.in_ok-first.first ≡ unsafe_text (names_of of.net) told.0 (fault_told told.1.now) =
    c.in_ok-first.ensures ∙ ap (λ (net : Network). unsafe_text (names_of net) told.0 (fault_told told.1.now)) net_is in
    order_way told.0 told.1.now c.in_ok-text.text (subst IsNetwork net_is c.routers-routers.ensures.network)
    (unsafe told.0 told.1.now (λ seamless. faulty_not_seamless first seamless) first)
    (subst (λ (line : List ℕ). TellsBehind (IsWayText (move_of of) (order_span order told.0) (fault_told told.1.now)) line c.in_ok-text.text) begins tells)
