use Rattle.std.proofs.Common.{arith}
use Rattle.std.proofs.lemmas.Grind.{common_steps}
use Rattle.std.proofs.Common.{◌≡◌, ◌∙◌, ◌<◌, List, length, subst, sym}
use Rattle.igp_theory.specs.Migrations.{ospf_to_isis, started}
use Rattle.igp_theory.specs.Phases.{state_in}
use Rattle.igp_theory.specs.declared.phase.Phase.{Phase}
use Rattle.net_model.specs.Refusals.{IsNetwork}
use Rattle.plan_theory.specs.Plans.{IsPlanned}
use Rattle.migration_report.specs.declared.decision.Decision.TheVariants.{Rest}
use Rattle.migrate_cli.specs.ReplanDecision.{IsRestPlanned, phases_made}
use Rattle.migrate_cli.specs.ReplanDecision.IsRestPlanned.{departs, plans_rest}
use Rattle.migrate_cli.specs.ReplayDecision.{journal_of}
use Rattle.migrate_cli.specs.steps.Tables.{NetworkMove, move_of}
use Rattle.migrate_cli.proofs.ReplanLaws.{phases_each}
use Rattle.migrate_cli.proofs.replan.replan_counting.Goals as goal

pub plan_stopped-requires-clause-some : goal.plan_stopped-requires-clause-some
plan_stopped-requires-clause-some c = subst (λ (of : NetworkMove). 0 < length of.net) (sym c.to_isis-of.ensures) c.requires.some

pub plan_stopped-requires-clause-each : goal.plan_stopped-requires-clause-each
plan_stopped-requires-clause-each c = grind (arith, common_steps, phases_each)

pub returns-in_ok-planned-in-Reached : goal.returns-in_ok-planned-in-Reached
returns-in_ok-planned-in-Reached c =
    let net = c.args.stopped.now.net.now in
    let ranks = c.args.stopped.now.ranks.now in
    let journal = journal_of c.args.stopped.now.journal.now net in
    let done = c.replay.new.done in
    let budget = c.args.budget in
    let planned = c.in_ok-planned-in-Reached.planned in
    let start : c.as_slice.result.now ≡ phases_made done = c.as_slice.ensures.value ∙ c.in_ok-start-in-Reached.ensures in
    let is = subst (λ (l : List Phase). IsPlanned (started (state_in l) (ospf_to_isis net)) budget planned) start
    (subst (λ (of : NetworkMove). IsPlanned (started (state_in c.as_slice.result.now) (move_of of)) budget planned) c.to_isis-of.ensures
    c.in_ok-planned-in-Reached.ensures.planned) in
    let network = subst (λ (of : NetworkMove). IsNetwork of.net) c.to_isis-of.ensures c.plan_stopped.ensures.network in
    subst (λ (l : List Phase). IsRestPlanned (ospf_to_isis net) journal ranks budget (Rest l planned))
    (sym (c.from_vec-start.ensures ∙ c.in_ok-start-in-Reached.ensures))
    (plans_rest c.in-Reached.field-0 done planned c.in-Reached.ensures c.requires.some network is)

pub returns-in-Departs : goal.returns-in-Departs
returns-in-Departs c = departs c.in-Departs.line c.replay.new.done c.in-Departs.ensures
