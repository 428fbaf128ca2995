use Rattle.std.proofs.Common.{arith}
use Rattle.std.proofs.lemmas.Grind.{common_steps}
use Rattle.std.proofs.Common.{◌≡◌, ◌∙◌, refl, replicate}
use Rattle.std.proofs.lemmas.List.{length-replicate}
use Rattle.ospf_routes.specs.RouteTables.{table_at}
use Rattle.rib_mix.specs.Mixture.{migration_of}
use Rattle.migrate_cli.specs.steps.Tables.{new_table}
use Rattle.migrate_cli.proofs.FailureFacts.{faulty_end, sound_end}
use Rattle.migrate_cli.proofs.failures.end_fault.Goals as goal

pub state_fault-requires : goal.state_fault-requires
state_fault-requires c = grind (arith, common_steps, length-replicate)

pub returns-in-None-clause-end : goal.returns-in-None-clause-end
returns-in-None-clause-end c =
    let move = migration_of table_at new_table c.args.finder.now.mixture in
    let are : c.as_slice.result.now ≡ replicate c.args.routers c.args.phase =
    c.as_slice.ensures.value ∙ c.in_ok-phases.ensures.items_if_clones_equal (λ y same. same) in
    sound_end move c.args.phase c.as_slice.result.now c.args.routers c.requires are (c.in-None.ensures.sound.0 refl)

pub returns-clause-end : goal.returns-clause-end
returns-clause-end c = grind (arith, common_steps, faulty_end)
