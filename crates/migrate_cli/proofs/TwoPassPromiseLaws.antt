-- What a call of `twopass` promises.
use Rattle.std.proofs.Common.{◌≢◌, ℕ, List, [], refl, subst, sym}
use Rattle.igp_theory.specs.Migrations.{Migration, ospf_to_isis}
use Rattle.igp_theory.proofs.Delivery.{isis_hop_is_router, ospf_hop_is_router}
use Rattle.net_model.specs.Network.{Network}
use Rattle.order_core.specs.Rankings.{wave_count}
use Rattle.refutation_check.specs.TreeLines.{two_tree_header}
use Rattle.refutation_check.specs.Verdicts.{IsTwoVerdict}
use Rattle.refutation_check.specs.declared.verdict.Verdict.TheVariants.{Closed, Unfinished}
use Rattle.store_edge.specs.Sink.{AddsBytes}
use Rattle.migrate_words.specs.Asked.{Asks}
use Rattle.migration_report.specs.Outcomes.{decision_status, decision_text, status_of, outcome_text}
use Rattle.migration_report.specs.declared.decision.Decision.{Decision}
use Rattle.migration_report.specs.declared.decision.Decision.TheVariants.{Tree}
use Rattle.migration_report.specs.declared.outcome.Outcome.{Outcome}
use Rattle.migration_report.specs.declared.status.Status.{Status}
use Rattle.migration_report.specs.declared.status.Status.TheVariants.{ReadFault}
use Rattle.migrate_cli.specs.Answers.{IsAnswer}
use Rattle.migrate_cli.specs.Calls.{Call, Course}
use Rattle.migrate_cli.specs.ChangesDecision.{IsChangesTree}
use Rattle.migrate_cli.specs.ChangesDecision.IsChangesTree.{judged_changes}
use Rattle.migrate_cli.specs.ChangesHeadline.{ChangesHeadline}
use Rattle.migrate_cli.specs.CheckDecision.IsCheckDecision.{by_changes}
use Rattle.migrate_cli.specs.JudgedTexts.{IsJudgedSo}
use Rattle.migrate_cli.specs.PlanPromise.{IsOfPlan, PlansOrNot}
use Rattle.migrate_cli.specs.PlanPromise.PlansOrNot.{planned as as_planned}
use Rattle.migrate_cli.specs.RefuteDecision.IsRefuteDecision.{by_changes as tree_of_changes}
use Rattle.migrate_cli.specs.TwoPassDecision.{IsTwoPassDecision}
use Rattle.migrate_cli.specs.TwoPassDecision.IsTwoPassOver.{plans_changes}
use Rattle.migrate_cli.specs.TwoPassPromise.{AcceptsTwoPass, HasPlannedChanges, two_pass_of}
use Rattle.migrate_cli.proofs.ChangesHeadlineLaws.{changes_headline}
use Rattle.migrate_cli.proofs.ChangesLaws.{begins_with_first, names_changes}
use Rattle.migrate_cli.proofs.CompletenessLaws.{ends_decided}
use Rattle.migrate_cli.proofs.DecidedLaws.{answer_decided}
use Rattle.migrate_cli.proofs.PlanPromiseLaws.{plan_no_refusal}

-- the decision means what the headline says
two_pass_means : {budget : ℕ} {net : Network} {d : Decision} → IsTwoPassDecision budget net d →
    ChangesHeadline (ospf_to_isis net) budget (decision_status d) (decision_text net d)
two_pass_means {budget} {net} (plans_changes planned some network is) =
    changes_headline (ospf_to_isis net) (λ u. refl)
    (λ u h q e below entry leads. ospf_hop_is_router net u h q e entry leads)
    (λ u h q e below entry leads. isis_hop_is_router net u h q e entry leads) budget some network planned is

-- ---- the text is judged so ----

closed_changes_verdict : {move : Migration} {text : List ℕ} {b l : ℕ} → IsChangesTree move text (Tree (Closed b l)) →
    IsTwoVerdict move text (Closed b l)
closed_changes_verdict (judged_changes _ _ is _) = is

open_changes_verdict : {move : Migration} {text : List ℕ} {u : ℕ} → IsChangesTree move text (Tree (Unfinished u)) →
    IsTwoVerdict move text (Unfinished u)
open_changes_verdict (judged_changes _ _ is _) = is

changes_judged_so : {net : Network} {budget : ℕ} {status : Status} {text : List ℕ} → ChangesHeadline (ospf_to_isis net) budget status text →
    IsJudgedSo net status text
changes_judged_so {net} {text = text} means = record {
  safe = λ done file.
      let it = means.safe_changes done in
      (wave_count it.ranks, by_changes _ (names_changes net text it.ranks it.names) (it.checks file));
  closed = λ negative.
      let it = means.no_changes negative in
      let is = closed_changes_verdict it.refutes in
      (it.branches, it.leaves, tree_of_changes _ (begins_with_first text two_tree_header is.lines is.text_is) it.refutes);
  stopped = λ spent.
      let it = means.no_more spent in
      let is = open_changes_verdict it.refutes in
      (it.unvisited, tree_of_changes _ (begins_with_first text two_tree_header is.lines is.text_is) it.refutes);
}

-- ---- the call ----

-- a call whose answer is of a plan, and was written, has planned
pub has_planned_changes : (call : Call) (budget : ℕ) (configs : List (List ℕ)) (outside : Course) {asked : List (List ℕ)} {outcome : Outcome} →
    Asks call.words (two_pass_of budget configs) → IsAnswer call asked outcome →
    AddsBytes outside.before.written outside.after.written (outcome_text outcome) → IsOfPlan (status_of outcome) →
    HasPlannedChanges call budget configs outside (status_of outcome)
has_planned_changes call budget configs outside {outcome = outcome} asks is adds of =
    let it = answer_decided IsOfPlan plan_no_refusal call (two_pass_of budget configs) tt asks is of in
    let means = two_pass_means it.is in
    record {
      texts = it.texts;
      read = it.read;
      within = it.within;
      net = it.net;
      gives = it.gives.0;
      start = it.start tt;
      text = outcome_text outcome;
      written = adds;
      means = subst (λ (o : Outcome). ChangesHeadline (ospf_to_isis it.net) budget (status_of o) (outcome_text o)) (sym it.outcome_is) means;
      judged = subst (λ (o : Outcome). IsJudgedSo it.net (status_of o) (outcome_text o)) (sym it.outcome_is) (changes_judged_so means);
    }

pub two_pass_decides : (call : Call) → (it : AcceptsTwoPass call) → (asked : List (List ℕ)) (outcome : Outcome) → status_of outcome ≢ ReadFault →
    IsAnswer call asked outcome → PlansOrNot (ospf_to_isis it.net) (status_of outcome)
two_pass_decides call it =
    ends_decided call (two_pass_of it.budget it.configs) it.texts it.net [] it.accepted (PlansOrNot (ospf_to_isis it.net))
    (λ decision is. as_planned (two_pass_means is).ends)
