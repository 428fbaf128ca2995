use Rattle.std.proofs.Common.{arith}
use Rattle.std.proofs.lemmas.Grind.{common_steps}
use Rattle.std.proofs.Common.{◌≡◌, ◌∙◌, List, ℕ, ap, refl, subst, sym}
use Rattle.igp_theory.specs.Timetables.{change_times}
use Rattle.igp_theory.proofs.WaveFaultLaws.{times_fault_unsound}
use Rattle.net_model.specs.Network.{Network}
use Rattle.net_model.specs.Refusals.{IsNetwork}
use Rattle.net_model.specs.RouterNames.{names_of}
use Rattle.ospf_routes.specs.RouteTables.{table_at}
use Rattle.plan_theory.specs.Plans.{fault_told}
use Rattle.rib_mix.specs.Mixture.{migration_of}
use Rattle.explained_texts.specs.WayTexts.{IsFaultInSpan, IsWayText, change_span}
use Rattle.explained_texts.proofs.WayFaults.{times_stand}
use Rattle.migration_report.specs.Texts.{waves_unsafe_text}
use Rattle.migrate_cli.specs.ChangesDecision.IsChangesDecision.{unsafe_changes}
use Rattle.migrate_cli.specs.ExplainedChanges.AreExplainedChanges.{changes_way}
use Rattle.migrate_cli.specs.ExplainedTexts.{TellsBehind}
use Rattle.migrate_cli.specs.steps.Tables.{move_of, new_table}
use Rattle.migrate_cli.proofs.ExplainedFacts.{change_table}
use Rattle.migrate_cli.proofs.FaultFacts.{fault_over_below}
use Rattle.migrate_cli.proofs.TableFacts.{times_fault}
use Rattle.migrate_cli.proofs.why_changes.changes_way.Goals as goal

pub waves_unsafe_text-requires : goal.waves_unsafe_text-requires
waves_unsafe_text-requires c = grind (arith, common_steps, fault_over_below)

pub with_way-requires-clause-fault : goal.with_way-requires-clause-fault
with_way-requires-clause-fault c =
    let move = migration_of table_at new_table c.args.mixed.now in
    let told = c.args.told in
    subst (λ (ranks : List ℕ). IsFaultInSpan move (change_span ranks told.0) (fault_told told.1.now)) (sym c.ranks-ranks.ensures.ranks)
    (times_stand move (change_times c.args.waves.now) told.0 (fault_told told.1.now) (λ u. refl)
    (change_table move c.args.waves.now (λ u. refl) c.requires.waves) c.requires.fault)

pub returns : goal.returns
returns c =
    let of = c.args.tables.now in
    let told = c.args.told in
    let ranks = c.args.waves.now in
    let net_is : c.net-net.result.now ≡ of.net = c.net-net.ensures ∙ c.requires.mixes.net_is in
    let first = times_fault of c.args.mixed.now c.requires.mixes (change_times ranks) told.0 (fault_told told.1.now) c.requires.fault in
    let tells = subst (λ (some : List ℕ). TellsBehind (IsWayText (move_of of) (change_span some told.0) (fault_told told.1.now))
    c.in_ok-first.first c.in_ok-text.text) c.ranks-ranks.ensures.ranks c.in_ok-text.ensures in
    let begins : c.in_ok-first.first ≡ waves_unsafe_text (names_of of.net) told.0 (fault_told told.1.now) =
    c.in_ok-first.ensures ∙ ap (λ (net : Network). waves_unsafe_text (names_of net) told.0 (fault_told told.1.now)) net_is in
    changes_way told.0 told.1.now c.in_ok-text.text (subst IsNetwork net_is c.routers-routers.ensures.network)
    (unsafe_changes told.0 told.1.now
    (λ sound. times_fault_unsound (move_of of) (change_times ranks) told.0 _ first sound) first)
    (subst (λ (line : List ℕ). TellsBehind (IsWayText (move_of of) (change_span ranks told.0) (fault_told told.1.now)) line c.in_ok-text.text) begins tells)
