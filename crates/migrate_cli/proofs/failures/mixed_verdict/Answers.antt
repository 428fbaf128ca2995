use Rattle.std.proofs.Common.{arith}
use Rattle.std.proofs.lemmas.Grind.{common_steps}
use Rattle.std.proofs.Common.{◌∙◌, subst, sym}
use Rattle.igp_theory.specs.LoopLaws.{AreSoundEnds}
use Rattle.igp_theory.specs.declared.phase.Phase.TheVariants.{New, Old}
use Rattle.ospf_routes.specs.RouteTables.{table_at}
use Rattle.rib_mix.specs.Mixture.{migration_of}
use Rattle.migrate_cli.specs.FailuresDecision.IsVerdictOver.{new_end, old_end}
use Rattle.migrate_cli.specs.steps.FirstUnsound.{IsEndFault}
use Rattle.migrate_cli.specs.steps.Tables.{new_table}
use Rattle.migrate_cli.proofs.FailureFacts.{end_sound}
use Rattle.migrate_cli.proofs.failures.mixed_verdict.Goals as goal

pub end_fault-requires : goal.end_fault-requires
end_fault-requires c = grind (arith, common_steps)

pub end_fault-requires-2 : goal.end_fault-requires-2
end_fault-requires-2 c = grind (arith, common_steps)

pub returns-in-Some : goal.returns-in-Some
returns-in-Some c =
    let end = subst (λ m. IsEndFault (migration_of table_at new_table m) Old c.in_ok-fault.field-0) c.in_ok-finder.ensures.mixture
    c.in_ok-fault.ensures.end in
    old_end c.in-Some.fault (subst (IsEndFault (migration_of table_at new_table c.args.mixed.now) Old) c.in-Some.is end)

pub returns-in-Some-2 : goal.returns-in-Some-2
returns-in-Some-2 c =
    let move = migration_of table_at new_table c.args.mixed.now in
    let first = subst (λ m. IsEndFault (migration_of table_at new_table m) Old c.in_ok-fault.field-0) c.in_ok-finder.ensures.mixture
    c.in_ok-fault.ensures.end in
    let last = subst (λ m. IsEndFault (migration_of table_at new_table m) New c.in_ok-fault-2.field-0)
    (c.in_ok-fault.ensures.mixture ∙ c.in_ok-finder.ensures.mixture) c.in_ok-fault-2.ensures.end in
    new_end c.in-Some-2.fault (record {
      first = end_sound move Old c.in_ok-fault.field-0 c.in_default.not-Some first;
      last = subst (IsEndFault move New) c.in-Some-2.is last;
    })

pub order_verdict-requires-clause-each : goal.order_verdict-requires-clause-each
order_verdict-requires-clause-each c = grind (arith, common_steps)

pub order_verdict-requires-clause-ones : goal.order_verdict-requires-clause-ones
order_verdict-requires-clause-ones c = c.args.read.now.ones c.in-One.is

pub order_verdict-requires-clause-ends : goal.order_verdict-requires-clause-ends
order_verdict-requires-clause-ends c =
    let move = migration_of table_at new_table c.args.mixed.now in
    let first = subst (λ m. IsEndFault (migration_of table_at new_table m) Old c.in_ok-fault.field-0) c.in_ok-finder.ensures.mixture
    c.in_ok-fault.ensures.end in
    let last = subst (λ m. IsEndFault (migration_of table_at new_table m) New c.in_ok-fault-2.field-0)
    (c.in_ok-fault.ensures.mixture ∙ c.in_ok-finder.ensures.mixture) c.in_ok-fault-2.ensures.end in
    let ends : AreSoundEnds move = record {
      first = end_sound move Old c.in_ok-fault.field-0 c.in_default.not-Some first;
      last = end_sound move New c.in_ok-fault-2.field-0 c.in_default-2.not-Some last;
    } in
    subst (λ m. AreSoundEnds (migration_of table_at new_table m))
    (sym (c.in_ok-fault-2.ensures.mixture ∙ c.in_ok-fault.ensures.mixture ∙ c.in_ok-finder.ensures.mixture)) ends

pub waves_verdict-requires-clause-each : goal.waves_verdict-requires-clause-each
waves_verdict-requires-clause-each c = grind (arith, common_steps)

pub waves_verdict-requires-clause-ends : goal.waves_verdict-requires-clause-ends
waves_verdict-requires-clause-ends c =
    let move = migration_of table_at new_table c.args.mixed.now in
    let first = subst (λ m. IsEndFault (migration_of table_at new_table m) Old c.in_ok-fault.field-0) c.in_ok-finder.ensures.mixture
    c.in_ok-fault.ensures.end in
    let last = subst (λ m. IsEndFault (migration_of table_at new_table m) New c.in_ok-fault-2.field-0)
    (c.in_ok-fault.ensures.mixture ∙ c.in_ok-finder.ensures.mixture) c.in_ok-fault-2.ensures.end in
    let ends : AreSoundEnds move = record {
      first = end_sound move Old c.in_ok-fault.field-0 c.in_default.not-Some first;
      last = end_sound move New c.in_ok-fault-2.field-0 c.in_default-2.not-Some last;
    } in
    subst (λ m. AreSoundEnds (migration_of table_at new_table m))
    (sym (c.in_ok-fault-2.ensures.mixture ∙ c.in_ok-fault.ensures.mixture ∙ c.in_ok-finder.ensures.mixture)) ends

pub returns-in-One : goal.returns-in-One
returns-in-One c = grind (arith, common_steps)

pub returns : goal.returns
returns c = grind (arith, common_steps)
