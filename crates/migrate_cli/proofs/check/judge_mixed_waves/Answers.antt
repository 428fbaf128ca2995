use Rattle.std.proofs.Common.{subst, sym}
use Rattle.igp_theory.specs.Phases.{all_old}
use Rattle.igp_theory.specs.Timetables.{router_times}
use Rattle.igp_theory.proofs.WaveFaultLaws.{times_fault_unsound}
use Rattle.ospf_routes.specs.RouteTables.{table_at}
use Rattle.rib_mix.specs.Mixture.{migration_of}
use Rattle.migration_report.specs.declared.decision.Decision.TheVariants.{SafeWaves}
use Rattle.migrate_cli.specs.CheckDecision.{IsWavesDecision}
use Rattle.migrate_cli.specs.CheckDecision.IsWavesDecision.{safe_waves, unsafe_wave}
use Rattle.migrate_cli.specs.steps.FirstUnsound.{IsFirstUnsoundWave}
use Rattle.migrate_cli.specs.steps.Tables.{move_of, new_table}
use Rattle.migrate_cli.proofs.TableFacts.{seamless_waves, times_fault}
use Rattle.migrate_cli.proofs.check.judge_mixed_waves.Goals as goal

pub returns-in-None : goal.returns-in-None
returns-in-None c = λ of mixes.
    let ranks = c.args.waves.now in
    subst (λ n. IsWavesDecision (move_of of) ranks (SafeWaves n)) (sym c.count.ensures)
    (safe_waves (seamless_waves of c.args.mixed.now mixes ranks
    (subst (IsFirstUnsoundWave (migration_of table_at new_table c.args.mixed.now) ranks) c.in-None.is c.in_ok-found.ensures)))

pub returns-in-Some : goal.returns-in-Some
returns-in-Some c = λ of mixes.
    let ranks = c.args.waves.now in
    let fault = times_fault of c.args.mixed.now mixes (router_times all_old ranks) c.in-Some.wave _
    (subst (IsFirstUnsoundWave (migration_of table_at new_table c.args.mixed.now) ranks) c.in-Some.is c.in_ok-found.ensures) in
    unsafe_wave c.in-Some.wave c.in-Some.fault
    (λ seamless. times_fault_unsound (move_of of) (router_times all_old ranks) c.in-Some.wave _ fault seamless.throughout) fault
