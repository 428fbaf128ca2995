use Rattle.std.proofs.Common.{None, subst, sym}
use Rattle.std.proofs.lemmas.Option.{IfSome_then}
use Rattle.route_tables.specs.declared.lane.Decision.{Decision}
use Rattle.route_tables.specs.steps.Leads.{IsTold, told_best, told_nothing, told_nothing_but, told_one}
use Rattle.route_tables.proofs.leads.told.Goals as goal

pub returns-in-Nothing : goal.returns-in-Nothing
returns-in-Nothing c =
    subst (IsTold c.args.leads.now c.args.router c.args.decision.now) (sym c.none.ensures)
    (subst (λ (d : Decision). IsTold c.args.leads.now c.args.router d None) (sym c.in-Nothing.is) told_nothing)

pub returns-in-NothingBut : goal.returns-in-NothingBut
returns-in-NothingBut c =
    subst (IsTold c.args.leads.now c.args.router c.args.decision.now) (sym c.none-in-NothingBut.ensures)
    (subst (λ (d : Decision). IsTold c.args.leads.now c.args.router d None) (sym c.in-NothingBut.is)
    (told_nothing_but c.in-NothingBut.one c.in-NothingBut.other (λ same. c.if-one-router.true (sym same)) (λ same. c.if-other-router.true (sym same))))

pub returns-in_ok-lead-in-One : goal.returns-in_ok-lead-in-One
returns-in_ok-lead-in-One c =
    let leads = c.args.leads.now in
    subst (λ (d : Decision). IsTold leads c.args.router d c.in_ok-lead-in-One.lead.number) (sym c.in-One.is)
    (told_one c.in-One.at c.in_ok-lead-in-One.lead c.in_ok-lead-in-One.ensures)

pub returns-in-Two : goal.returns-in-Two
returns-in-Two c = IfSome_then c.number_to_best.result c.number_to_best.ensures
    (λ number is. subst (λ (d : Decision). IsTold c.args.leads.now c.args.router d number) (sym c.in-Two.is)
    (told_best c.in-Two.one c.in-Two.other number is))
