use Rattle.std.proofs.Common.{subst, sym}
use Rattle.igp_theory.specs.Migrations.{ospf_to_isis}
use Rattle.order_search.specs.declared.found.Found.{Found}
use Rattle.plan_theory.specs.Plans.{IsPlanned}
use Rattle.plan_theory.specs.declared.planned.Planned.TheVariants.{Searched}
use Rattle.migrate_words.specs.declared.command.TheConstants.{USUAL_BUDGET}
use Rattle.migration_report.specs.declared.decision.Decision.TheVariants.{Summary}
use Rattle.migrate_cli.specs.SampleDecision.{IsSampleDecision}
use Rattle.migrate_cli.specs.SampleDecision.IsSampleDecision.{as_planned, summed_up}
use Rattle.migrate_cli.proofs.sample.sum_up_found.Goals as goal

pub returns-in-Refuted : goal.returns-in-Refuted
returns-in-Refuted c =
    as_planned _ (λ e. Prim.cc e) c.requires.some c.requires.network
    (subst (λ (found : Found). IsPlanned (ospf_to_isis c.args.net.now) USUAL_BUDGET (Searched found)) c.in-Refuted.is c.requires.planned)

pub returns-in-Spent : goal.returns-in-Spent
returns-in-Spent c =
    as_planned _ (λ e. Prim.cc e) c.requires.some c.requires.network
    (subst (λ (found : Found). IsPlanned (ospf_to_isis c.args.net.now) USUAL_BUDGET (Searched found)) c.in-Spent.is c.requires.planned)

pub returns : goal.returns
returns c =
    let net = c.args.net.now in
    let is = subst (λ (found : Found). IsPlanned (ospf_to_isis net) USUAL_BUDGET (Searched found)) c.in-Waves.is c.requires.planned in
    subst (λ n. IsSampleDecision c.args.routers net
    (Summary (record { routers = c.args.routers; prefixes = c.in_ok-prefixes.prefixes; branches = n }) c.in-Waves.waves))
    (sym c.count_branches-branches.ensures)
    (summed_up c.in-Waves.waves _ _ c.in-Waves.trail c.in_ok-prefixes.prefixes c.requires.some c.requires.network is c.in_ok-prefixes.ensures)
