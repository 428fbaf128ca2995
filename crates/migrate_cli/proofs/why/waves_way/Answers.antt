use Rattle.std.proofs.Common.{arith}
use Rattle.std.proofs.lemmas.Grind.{common_steps}
use Rattle.std.proofs.Common.{◌≡◌, ◌∙◌, List, ℕ, ap, subst}
use Rattle.igp_theory.specs.Phases.{all_old}
use Rattle.igp_theory.specs.Timetables.{router_times}
use Rattle.igp_theory.proofs.Switches.{routers_have_times}
use Rattle.igp_theory.proofs.WaveFaultLaws.{times_fault_unsound}
use Rattle.net_model.specs.Network.{Network}
use Rattle.net_model.specs.Refusals.{IsNetwork}
use Rattle.net_model.specs.RouterNames.{names_of}
use Rattle.plan_theory.specs.Plans.{fault_told}
use Rattle.explained_texts.specs.WayTexts.{IsWayText, wave_span}
use Rattle.explained_texts.proofs.WayFaults.{times_stand}
use Rattle.migration_report.specs.Texts.{waves_unsafe_text}
use Rattle.migrate_cli.specs.CheckDecision.IsWavesDecision.{unsafe_wave}
use Rattle.migrate_cli.specs.ExplainedTexts.{TellsBehind}
use Rattle.migrate_cli.specs.ExplainedDecision.IsExplainedWaves.{waves_way}
use Rattle.migrate_cli.specs.steps.Tables.{move_of}
use Rattle.migrate_cli.proofs.FaultFacts.{fault_over_below}
use Rattle.migrate_cli.proofs.TableFacts.{times_fault}
use Rattle.migrate_cli.proofs.why.waves_way.Goals as goal

pub waves_unsafe_text-requires : goal.waves_unsafe_text-requires
waves_unsafe_text-requires c = grind (arith, common_steps, fault_over_below)

pub with_way-requires-clause-fault : goal.with_way-requires-clause-fault
with_way-requires-clause-fault c = grind (arith, common_steps, routers_have_times, times_stand)

pub returns : goal.returns
returns c =
    let of = c.args.tables.now in
    let told = c.args.told in
    let ranks = c.args.waves.now in
    let net_is : c.net-net.result.now ≡ of.net = c.net-net.ensures ∙ c.requires.mixes.net_is in
    let first = times_fault of c.args.mixed.now c.requires.mixes (router_times all_old ranks) told.0 (fault_told told.1.now) c.requires.fault in
    let tells = subst (λ (some : List ℕ). TellsBehind (IsWayText (move_of of) (wave_span all_old some told.0) (fault_told told.1.now))
    c.in_ok-first.first c.in_ok-text.text) c.ranks-ranks.ensures.ranks c.in_ok-text.ensures in
    let begins : c.in_ok-first.first ≡ waves_unsafe_text (names_of of.net) told.0 (fault_told told.1.now) =
    c.in_ok-first.ensures ∙ ap (λ (net : Network). waves_unsafe_text (names_of net) told.0 (fault_told told.1.now)) net_is in
    waves_way told.0 told.1.now c.in_ok-text.text (subst IsNetwork net_is c.routers-routers.ensures.network)
    (unsafe_wave told.0 told.1.now
    (λ seamless. times_fault_unsound (move_of of) (router_times all_old ranks) told.0 _ first seamless.throughout) first)
    (subst (λ (line : List ℕ). TellsBehind (IsWayText (move_of of) (wave_span all_old ranks told.0) (fault_told told.1.now)) line c.in_ok-text.text)
    begins tells)
