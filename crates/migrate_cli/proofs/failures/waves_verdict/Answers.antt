use Rattle.std.proofs.Common.{subst}
use Rattle.ospf_routes.specs.RouteTables.{table_at}
use Rattle.rib_mix.specs.Mixture.{migration_of}
use Rattle.migrate_cli.specs.FailuresDecision.IsVerdictOver.{waves_broken, waves_kept}
use Rattle.migrate_cli.specs.steps.FirstUnsound.{IsFirstUnsoundWave}
use Rattle.migrate_cli.specs.steps.Tables.{new_table}
use Rattle.migrate_cli.proofs.failures.waves_verdict.Goals as goal

pub returns-in-None : goal.returns-in-None
returns-in-None c =
    let move = migration_of table_at new_table c.args.finder.now.mixture in
    waves_kept c.requires.ends (subst (IsFirstUnsoundWave move c.args.waves.now) c.in-None.is c.in_ok-unsound_wave.ensures)

pub returns-in-Some : goal.returns-in-Some
returns-in-Some c =
    let move = migration_of table_at new_table c.args.finder.now.mixture in
    waves_broken c.in-Some.wave c.in-Some.fault c.requires.ends
    (subst (IsFirstUnsoundWave move c.args.waves.now) c.in-Some.is c.in_ok-unsound_wave.ensures)
