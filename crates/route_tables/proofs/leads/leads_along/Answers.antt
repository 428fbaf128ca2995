use Rattle.std.proofs.Common.{◌≡◌, ℕ, ◌+◌, List, set, length-set, subst, sym, ◌∙◌, arith}
use Rattle.route_core.specs.declared.entry.Entry.{Entry}
use Rattle.walk_core.specs.Reach.{Reach}
use Rattle.route_tables.specs.declared.leads.Lead.{Lead}
use Rattle.route_tables.specs.steps.Leads.{AreLeadsBelow, IsLead}
use Rattle.route_tables.proofs.LeadLaws.{leads_more}
use Rattle.route_tables.proofs.SharingLaws.{more_kept, single_kept}
use Rattle.route_tables.proofs.leads.leads_along.Goals as goal

pub loop-step-preserved : goal.loop-step-preserved
loop-step-preserved c =
    let before = c.loop-step in
    let n : ℕ = c.args.walked.now.count in
    let reach : Reach = c.args.walked.now.walks.now in
    let first : ℕ = c.args.walked.now.stretch.first in
    let next : ℕ = first + before.step in
    let lead : Lead = c.in_ok-lead.lead in
    let pool = c.lead_on.new.pool in
    let kept = c.in_ok-lead.ensures.kept in
    let old : List Entry = before.pool.entries.items in
    let more = leads_more reach n next old kept.more before.all.items lead before.invariant.leads
    (subst (λ (l : List Entry). IsLead reach n l next lead) kept.entries c.in_ok-lead.ensures.lead) in
    let place : ℕ = c.first-first.result + before.step in
    let here : next ≡ place = omega (arith, c.first-first.ensures) in
    record {
      long = length-set before.all.items place lead ∙ before.invariant.long;
      leads = subst (λ (k : ℕ). AreLeadsBelow reach n k pool.entries.items (set before.all.items place lead)) (omega arith)
          (subst (λ (i : ℕ). AreLeadsBelow reach n (next + 1) pool.entries.items (set before.all.items i lead)) here
          (subst (λ (l : List Entry). AreLeadsBelow reach n (next + 1) l (set before.all.items next lead)) (sym kept.entries) more));
      single = single_kept n before.pool pool kept before.invariant.single;
      kept = more_kept c.args.pool.now before.pool pool before.invariant.kept kept;
    }
