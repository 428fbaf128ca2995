use Rattle.std.proofs.Common.{length, refl, subst, sym}
use Rattle.igp_theory.specs.States.{IsSeamless}
use Rattle.igp_theory.specs.Loops.{IsFirstFault}
use Rattle.order_core.proofs.WaveLists.{flat_is_order}
use Rattle.order_core.specs.Orders.{IsOrder}
use Rattle.order_core.specs.Rankings.{IsRanking, flat_of}
use Rattle.ospf_routes.specs.RouteTables.{table_at}
use Rattle.plan_theory.specs.Plans.{fault_told}
use Rattle.rib_mix.specs.Mixture.{migration_of}
use Rattle.split_waves.proofs.OneRouterWaves.{order_of_waves}
use Rattle.migrate_cli.specs.FailuresDecision.IsVerdictOver.{order_broken, order_kept}
use Rattle.migrate_cli.specs.steps.FirstUnsound.{IsFirstUnsoundState}
use Rattle.migrate_cli.specs.steps.Tables.{new_table}
use Rattle.migrate_cli.proofs.failures.order_verdict.Goals as goal

pub unsound_state-requires : goal.unsound_state-requires
unsound_state-requires c =
    let ranks = c.args.waves.now in
    subst (IsOrder (length c.args.finder.now.mixture.net)) (sym c.flat.ensures) (subst (λ n. IsOrder n (flat_of ranks)) c.requires.each (flat_is_order ranks))

pub returns-in-None : goal.returns-in-None
returns-in-None c =
    let move = migration_of table_at new_table c.args.finder.now.mixture in
    let ranks = c.args.waves.now in
    let seamless : IsSeamless move (flat_of ranks) = subst (IsSeamless move) c.flat.ensures
    (subst (IsFirstUnsoundState move c.flat.result.now) c.in-None.is c.in_ok-unsound_state.ensures) in
    order_kept c.requires.ends seamless
    (order_of_waves move ranks (λ u. refl) (subst (λ n. IsRanking n ranks) c.requires.each c.ranks-ranks.ensures.ranking) c.requires.ones seamless)

pub returns-in-Some : goal.returns-in-Some
returns-in-Some c =
    let move = migration_of table_at new_table c.args.finder.now.mixture in
    order_broken c.in-Some.state c.in-Some.fault c.requires.ends
    (subst (λ order. IsFirstFault move order c.in-Some.state (fault_told c.in-Some.fault)) c.flat.ensures
    (subst (IsFirstUnsoundState move c.flat.result.now) c.in-Some.is c.in_ok-unsound_state.ensures))
