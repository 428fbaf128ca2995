use Rattle.std.proofs.Common.{subst}
use Rattle.igp_theory.proofs.FaultLaws.{faulty_not_seamless}
use Rattle.ospf_routes.specs.RouteTables.{table_at}
use Rattle.rib_mix.specs.Mixture.{migration_of}
use Rattle.migrate_cli.specs.CheckDecision.IsOrderDecision.{safe, unsafe}
use Rattle.migrate_cli.specs.steps.FirstUnsound.{IsFirstUnsoundState}
use Rattle.migrate_cli.specs.steps.Tables.{new_table}
use Rattle.migrate_cli.proofs.TableFacts.{first_fault, seamless_order}
use Rattle.migrate_cli.proofs.check.judge_mixed_order.Goals as goal

pub returns-in-None : goal.returns-in-None
returns-in-None c = λ of mixes.
    let order = c.args.order.now in
    safe (seamless_order of c.args.mixed.now mixes order
    (subst (IsFirstUnsoundState (migration_of table_at new_table c.args.mixed.now) order) c.in-None.is c.in_ok-found.ensures))

pub returns-in-Some : goal.returns-in-Some
returns-in-Some c = λ of mixes.
    let order = c.args.order.now in
    let fault = first_fault of c.args.mixed.now mixes order c.in-Some.state _
    (subst (IsFirstUnsoundState (migration_of table_at new_table c.args.mixed.now) order) c.in-Some.is c.in_ok-found.ensures) in
    unsafe c.in-Some.state c.in-Some.fault (λ seamless. faulty_not_seamless fault seamless) fault
