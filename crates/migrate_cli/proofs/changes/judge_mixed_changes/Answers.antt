use Rattle.std.proofs.Common.{subst, sym}
use Rattle.igp_theory.specs.Timetables.{change_times}
use Rattle.igp_theory.proofs.WaveFaultLaws.{times_fault_unsound}
use Rattle.ospf_routes.specs.RouteTables.{table_at}
use Rattle.rib_mix.specs.Mixture.{migration_of}
use Rattle.migration_report.specs.declared.decision.Decision.TheVariants.{SafeWaves}
use Rattle.migrate_cli.specs.ChangesDecision.{IsChangesDecision}
use Rattle.migrate_cli.specs.ChangesDecision.IsChangesDecision.{safe_changes, unsafe_changes}
use Rattle.migrate_cli.specs.steps.FirstUnsound.{IsFirstUnsoundTime}
use Rattle.migrate_cli.specs.steps.Tables.{move_of, new_table}
use Rattle.migrate_cli.proofs.TableFacts.{sound_throughout, times_fault}
use Rattle.migrate_cli.proofs.changes.judge_mixed_changes.Goals as goal

pub returns-in-None : goal.returns-in-None
returns-in-None c = λ of mixes.
    let ranks = c.args.waves.now in
    let mixed = c.args.mixed.now in
    subst (λ n. IsChangesDecision (move_of of) ranks (SafeWaves n)) (sym c.count.ensures)
    (safe_changes (sound_throughout of mixed mixes (change_times ranks)
    (subst (IsFirstUnsoundTime (migration_of table_at new_table mixed) (change_times ranks)) c.in-None.is c.in_ok-found.ensures)))

pub returns-in-Some : goal.returns-in-Some
returns-in-Some c = λ of mixes.
    let ranks = c.args.waves.now in
    let mixed = c.args.mixed.now in
    let fault = times_fault of mixed mixes (change_times ranks) c.in-Some.wave _
    (subst (IsFirstUnsoundTime (migration_of table_at new_table mixed) (change_times ranks)) c.in-Some.is c.in_ok-found.ensures) in
    unsafe_changes c.in-Some.wave c.in-Some.fault
    (λ sound. times_fault_unsound (move_of of) (change_times ranks) c.in-Some.wave _ fault sound) fault
