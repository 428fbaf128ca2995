use Rattle.std.proofs.Common.{refl, sym, subst}
use Rattle.isis_routes.specs.steps.Asked.{HasNoneBefore, LeadAsked}
use Rattle.isis_routes.specs.declared.level.Level.{Level}
use Rattle.isis_routes.proofs.LeadFacts.{as_good, one_leads, two_leads}
use Rattle.isis_routes.proofs.leading.leading_offers.Goals as goal

pub returns-then-runs_level_one : goal.returns-then-runs_level_one
returns-then-runs_level_one c =
    let asked = c.args.asked in
    subst (λ (level : Level). LeadAsked asked level c.as_slice.result.now) (sym c.in-One.is)
    (one_leads asked.domain.now asked.router asked.destination.now c.as_slice.result.now c.if-runs_level_one.ensures.known c.requires.asked.announced
    c.requires.asked.router c.requires.away (c.if-runs_level_one.ensures.runs.0 refl) (as_good c.as_slice.ensures.value))

pub returns-then-runs_level_two : goal.returns-then-runs_level_two
returns-then-runs_level_two c =
    let asked = c.args.asked in
    let offers = c.as_slice-then-runs_level_two in
    subst (λ (level : Level). LeadAsked asked level offers.result.now) (sym c.in-Two.is)
    (two_leads asked.domain.now asked.router asked.destination.now offers.result.now c.if-runs_level_two.ensures.known c.requires.asked.announced
    c.requires.asked.router c.requires.away (subst (HasNoneBefore asked) c.in-Two.is c.requires.first) (c.if-runs_level_two.ensures.runs.0 refl)
    (as_good offers.ensures.value))
