-- Statuses that are no fault.
use Rattle.std.proofs.Common.{arith}
use Rattle.std.proofs.lemmas.Grind.{common_steps}
use Rattle.std.specs.Prelude.{◌≢◌, Bool}
use Rattle.order_search.specs.declared.found.Found.{Found}
use Rattle.plan_theory.specs.declared.planned.Planned.{Planned}
use Rattle.refutation_check.specs.declared.verdict.Verdict.{Verdict}
use Rattle.migration_report.specs.Outcomes.{decision_status, found_status, plan_status, survey_status, verdict_status}
use Rattle.migration_report.specs.declared.decision.Decision.{Decision}
use Rattle.migration_report.specs.declared.status.Status.{Status}
use Rattle.migration_report.specs.declared.status.Status.TheVariants as status

-- a fault of reading or of writing is no decision
abbrev pub NoFault : Status → Type 0
NoFault s = (s ≢ status.ReadFault) × (s ≢ status.WriteFault)

pub done_no_fault : NoFault status.Done
done_no_fault = (λ e. Prim.cc e, λ e. Prim.cc e)

pub negative_no_fault : NoFault status.Negative
negative_no_fault = (λ e. Prim.cc e, λ e. Prim.cc e)

pub refused_no_fault : NoFault status.Refused
refused_no_fault = (λ e. Prim.cc e, λ e. Prim.cc e)

pub limit_no_fault : NoFault status.Limit
limit_no_fault = (λ e. Prim.cc e, λ e. Prim.cc e)

unsound_no_fault : NoFault status.Unsound
unsound_no_fault = (λ e. Prim.cc e, λ e. Prim.cc e)

found_no_fault : (found : Found) → NoFault (found_status found)
found_no_fault found = grind (arith, common_steps, done_no_fault, negative_no_fault)

plan_no_fault : (planned : Planned) → NoFault (plan_status planned)
plan_no_fault planned = grind (arith, common_steps, found_no_fault, unsound_no_fault)

verdict_no_fault : (verdict : Verdict) → NoFault (verdict_status verdict)
verdict_no_fault verdict = grind (arith, common_steps, done_no_fault, negative_no_fault)

pub decision_no_fault : (decision : Decision) → NoFault (decision_status decision)
decision_no_fault decision =
    grind (arith, common_steps, done_no_fault, negative_no_fault, plan_no_fault, refused_no_fault, verdict_no_fault)

pub survey_no_fault : (stands_out : Bool) → NoFault (survey_status stands_out)
survey_no_fault stands_out = grind (arith, common_steps, done_no_fault, negative_no_fault)
