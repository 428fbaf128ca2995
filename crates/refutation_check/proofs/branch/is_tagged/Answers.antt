use Rattle.std.proofs.Common.{◌↔◌, IsTrue, sym, subst}
use Rattle.igp_theory.specs.Forwarding.{Steps}
use Rattle.igp_theory.specs.Migrations.{Migration}
use Rattle.igp_theory.specs.declared.phase.Phase.{Phase}
use Rattle.igp_theory.specs.declared.phase.Phase.TheVariants.{New}
use Rattle.rib_mix.specs.Mixture.{migration_of}
use Rattle.refutation_check.specs.steps.Judged.{started_of}
use Rattle.igp_theory.specs.Phases.{state_in}
use Rattle.refutation_check.proofs.TagFacts.{hops_told, tag_told}
use Rattle.refutation_check.proofs.branch.is_tagged.Goals as goal

pub returns : goal.returns
returns g c = λ a class must.
    let mixed : Migration = migration_of g.O.RouteSource.table g.N.RouteSource.table c.args.asked.now.mixed.now in
    let start = c.args.asked.now.start.now in
    let move : Migration = started_of g.O.RouteSource.table g.N.RouteSource.table c.args.asked.now.mixed.now start in
    let begin = c.begin_of-begin.result in
    tag_told move a c.args.turn c.args.next c.leads_to-old.result c.leads_to-new.result c.is_tag_of.result
    (subst (λ (phase : Phase). IsTrue c.leads_to-old.result ↔ Steps move c.args.turn.router phase a c.args.next) (sym c.begin_of-begin.ensures)
    (hops_told mixed (state_in start) c.args.turn.router begin a c.hops.result c.args.next c.leads_to-old.result (c.hops.ensures.next a class) must
    c.leads_to-old.ensures))
    (hops_told mixed (state_in start) c.args.turn.router New a c.hops-2.result c.args.next c.leads_to-new.result (c.hops-2.ensures.next a class) must
    c.leads_to-new.ensures) c.is_tag_of.ensures
