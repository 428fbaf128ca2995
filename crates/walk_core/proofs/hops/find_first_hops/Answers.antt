use Rattle.std.proofs.Common.{arith}
use Rattle.std.proofs.lemmas.Grind.{common_steps}
use Rattle.std.proofs.Common.{◌≡◌, ℕ, [], List, Vec, Global, get_or, refl, sym, ap, subst, ◌∙◌}
use Rattle.std.proofs.lemmas.List.{get_or_default}
use Rattle.walk_core.specs.declared.hops.Departure.{Departure}
use Rattle.walk_core.specs.steps.Adding.{AddsNumbers}
use Rattle.walk_core.specs.steps.Departures.{Begins, BeginsAt}
use Rattle.walk_core.proofs.AddingLaws.{adds_nothing, adds_one, adds_to_none, leads_all, leads_more, leads_nowhere}
use Rattle.walk_core.proofs.hops.find_first_hops.Goals as goal
use Rattle.walk_core.proofs.hops.find_first_hops.Goals.{then-begins+in_ok-push, else-begins}

pub loop-departure-init : goal.loop-departure-init
loop-departure-init c = grind (arith, common_steps, leads_nowhere)

pub loop-departure-preserved : goal.loop-departure-preserved
loop-departure-preserved c =
    let Leads : Departure → ℕ → Type 0 = λ d n. Begins c.args.rows.now d c.args.v c.args.distance × (d.to ≡ n) in
    let none : Departure = record { to = 0; cost = 0 } in
    let ds : List Departure = c.args.departures.now in
    let i : ℕ = c.loop-departure.departure-index in
    let item : Departure = get_or ds i none in
    let now : List ℕ = c.loop-departure.found.items in
    let items = λ (all : Vec ℕ Global). all.items in
    let step : AddsNumbers (Leads item) now c.if-begins.found.items = elim c.if-begins.branch [
      | then-begins+in_ok-push w ↦
          subst (λ (l : List ℕ). AddsNumbers (Leads item) now l) (sym (ap items w.found-is ∙ w.in_ok-push.ensures.items))
          (adds_one (Leads item) now item.to (c.begins.ensures.0 w.if-begins.true, refl) (λ h leads. leads.1))
      | else-begins w ↦
          subst (λ (l : List ℕ). AddsNumbers (Leads item) now l) (sym (ap items w.found-is))
          (adds_nothing (Leads item) now (λ h leads. let yes = c.begins.ensures.1 leads.0 in let no = w.if-begins.false in cc (yes, no)))
    ] in
    leads_more Leads ds i item [] now c.if-begins.found.items c.loop-departure-test.true (get_or_default ds i item none c.loop-departure-test.true)
    c.loop-departure.invariant step

pub returns-clause-exact : goal.returns-clause-exact
returns-clause-exact c h =
    let Leads : Departure → ℕ → Type 0 = λ d n. Begins c.args.rows.now d c.args.v c.args.distance × (d.to ≡ n) in
    let found : List ℕ = c.loop-departure.found.items in
    let adds : AddsNumbers (BeginsAt c.args.departures.now c.args.rows.now c.args.v c.args.distance) [] found =
    leads_all Leads c.args.departures.now c.loop-departure.departure-index [] found c.loop-departure-test.false c.loop-departure.invariant in
    let are = adds_to_none (BeginsAt c.args.departures.now c.args.rows.now c.args.v c.args.distance) [] found refl adds h in (
      λ has. are.0 ((c.put_in_order.ensures.kept h).0 has),
      λ at. (c.put_in_order.ensures.kept h).1 (are.1 at),
    )
