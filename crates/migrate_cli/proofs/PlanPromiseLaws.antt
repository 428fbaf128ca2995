-- What a call of `plan` promises.
use Rattle.std.proofs.Common.{◌≢◌, ℕ, List, [], refl, subst, sym}
use Rattle.igp_theory.specs.Migrations.{ospf_to_isis}
use Rattle.igp_theory.proofs.Delivery.{isis_hop_is_router, ospf_hop_is_router}
use Rattle.net_model.specs.Network.{Network}
use Rattle.store_edge.specs.Sink.{AddsBytes}
use Rattle.migrate_words.specs.Asked.{Asks}
use Rattle.migrate_words.specs.declared.command.CommandKind.TheVariants.{Plan}
use Rattle.migration_report.specs.Outcomes.{decision_status, decision_text, status_of, outcome_text}
use Rattle.migration_report.specs.declared.decision.Decision.{Decision}
use Rattle.migration_report.specs.declared.outcome.Outcome.{Outcome}
use Rattle.migration_report.specs.declared.status.Status.TheVariants.{ReadFault}
use Rattle.migrate_cli.specs.Answers.{IsAnswer}
use Rattle.migrate_cli.specs.Calls.{Call, Course}
use Rattle.migrate_cli.specs.CommandFiles.{command_of}
use Rattle.migrate_cli.specs.Headline.{Headline}
use Rattle.migrate_cli.specs.JudgedTexts.{IsJudgedSo}
use Rattle.migrate_cli.specs.PlanDecision.{IsPlanDecision}
use Rattle.migrate_cli.specs.PlanDecision.IsPlanOver.{plans}
use Rattle.migrate_cli.specs.PlanPromise.{AcceptsPlan, HasPlanned, IsOfPlan, PlansOrNot}
use Rattle.migrate_cli.specs.PlanPromise.PlansOrNot.{planned as as_planned}
use Rattle.migrate_cli.proofs.ChangesPromiseLaws.{judged_so}
use Rattle.migrate_cli.proofs.CompletenessLaws.{ends_decided}
use Rattle.migrate_cli.proofs.DecidedLaws.{IsNoRefusal, answer_decided}
use Rattle.migrate_cli.proofs.HeadlineLaws.{headline}

-- the decision means what the headline says
pub decision_means : {budget : ℕ} {net : Network} {d : Decision} → IsPlanDecision budget net d →
    Headline (ospf_to_isis net) budget (decision_status d) (decision_text net d)
decision_means {budget} {net} (plans planned some network is) =
    headline (ospf_to_isis net) (λ u. refl)
    (λ u h q e below entry leads. ospf_hop_is_router net u h q e entry leads)
    (λ u h q e below entry leads. isis_hop_is_router net u h q e entry leads) budget some network planned is

-- no refusal ends as a plan
pub plan_no_refusal : IsNoRefusal IsOfPlan
plan_no_refusal = record { words = λ q. q; read = λ q. q; limit = λ q. q; refused = λ q. q }

-- a call whose answer is of a plan, and was written, has planned
pub answer_means : (call : Call) (budget : ℕ) (configs : List (List ℕ)) (outside : Course) {asked : List (List ℕ)} {outcome : Outcome} →
    Asks call.words (command_of Plan [] configs budget) → IsAnswer call asked outcome →
    AddsBytes outside.before.written outside.after.written (outcome_text outcome) → IsOfPlan (status_of outcome) →
    HasPlanned call budget configs outside (status_of outcome)
answer_means call budget configs outside {outcome = outcome} asks is adds of =
    let it = answer_decided IsOfPlan plan_no_refusal call (command_of Plan [] configs budget) tt asks is of in
    record {
      texts = it.texts;
      read = it.read;
      within = it.within;
      net = it.net;
      gives = it.gives.0;
      start = it.start tt;
      text = outcome_text outcome;
      written = adds;
      means =
          subst (λ (o : Outcome). Headline (ospf_to_isis it.net) budget (status_of o) (outcome_text o)) (sym it.outcome_is) (decision_means it.is);
      judged =
          subst (λ (o : Outcome). IsJudgedSo it.net (status_of o) (outcome_text o)) (sym it.outcome_is) (judged_so (decision_means it.is));
    }

pub plan_decides : (call : Call) → (it : AcceptsPlan call) → (asked : List (List ℕ)) (outcome : Outcome) → status_of outcome ≢ ReadFault →
    IsAnswer call asked outcome → PlansOrNot (ospf_to_isis it.net) (status_of outcome)
plan_decides call it =
    ends_decided call (command_of Plan [] it.configs it.budget) it.texts it.net [] it.accepted (PlansOrNot (ospf_to_isis it.net))
    (λ decision is. as_planned (decision_means is).ends)
