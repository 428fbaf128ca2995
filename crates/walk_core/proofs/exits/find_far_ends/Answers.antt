use Rattle.std.proofs.Common.{arith}
use Rattle.std.proofs.lemmas.Grind.{common_steps}
use Rattle.std.proofs.Common.{◌≡◌, ◌↔◌, ℕ, [], IsTrue, List, Option, Vec, Global, refl, sym, ap, subst, ◌∙◌}
use Rattle.walk_core.specs.Distances.{distance_at}
use Rattle.walk_core.specs.declared.exits.Exit.{Exit}
use Rattle.walk_core.specs.steps.Adding.{AddsNumbers}
use Rattle.walk_core.specs.steps.BestOver.{IsTotal}
use Rattle.walk_core.specs.steps.Exits.{LeadsAsFar, OneLeadsAsFar}
use Rattle.walk_core.proofs.AddingLaws.{adds_nothing, adds_one, adds_to_none, leads_all, leads_more, leads_nowhere}
use Rattle.walk_core.proofs.exits.find_far_ends.Goals as goal
use Rattle.walk_core.proofs.exits.find_far_ends.Goals.{then-is_over+in_ok-push, else-is_over}

pub loop-exit-init : goal.loop-exit-init
loop-exit-init c = grind (arith, common_steps, leads_nowhere)

pub returns-clause-exact : goal.returns-clause-exact
returns-clause-exact c h =
    let Leads : Exit → ℕ → Type 0 = LeadsAsFar c.args.v c.args.distance in
    let found : List ℕ = c.loop-exit.found.items in
    let all : ℕ → Type 0 = OneLeadsAsFar c.args.exits.now c.args.v c.args.distance in
    let adds : AddsNumbers all [] found =
    leads_all Leads c.args.exits.now c.loop-exit.exit-index [] found c.loop-exit-test.false c.loop-exit.invariant in
    let are = adds_to_none all [] found refl adds h in (
      λ has. are.0 ((c.put_in_order.ensures.kept h).0 has),
      λ at. (c.put_in_order.ensures.kept h).1 (are.1 at),
    )

pub loop-exit-preserved : goal.loop-exit-preserved
loop-exit-preserved c =
    let Leads : Exit → ℕ → Type 0 = LeadsAsFar c.args.v c.args.distance in
    let exits : List Exit = c.args.exits.now in
    let i : ℕ = c.loop-exit.exit-index in
    let exit : Exit = c.exit-item.result in
    let now : List ℕ = c.loop-exit.found.items in
    let items = λ (all : Vec ℕ Global). all.items in
    let far : c.distance_in.result ≡ distance_at exit.row.now c.args.v = c.distance_in.ensures in
    let same : IsTrue c.is_over.result ↔ IsTotal (distance_at exit.row.now c.args.v) exit.cost c.args.distance =
    subst (λ (d : Option ℕ). IsTrue c.is_over.result ↔ IsTotal d exit.cost c.args.distance) far c.is_over.ensures in
    let step : AddsNumbers (Leads exit) now c.if-is_over.found.items = elim c.if-is_over.branch [
      | then-is_over+in_ok-push w ↦
          subst (λ (l : List ℕ). AddsNumbers (Leads exit) now l) (sym (ap items w.found-is ∙ w.in_ok-push.ensures.items))
          (adds_one (Leads exit) now exit.to (same.0 w.if-is_over.true, refl) (λ h leads. leads.1))
      | else-is_over w ↦
          subst (λ (l : List ℕ). AddsNumbers (Leads exit) now l) (sym (ap items w.found-is))
          (adds_nothing (Leads exit) now (λ h leads. let yes = same.1 leads.0 in let no = w.if-is_over.false in cc (yes, no)))
    ] in
    leads_more Leads exits i exit [] now c.if-is_over.found.items c.loop-exit-test.true (sym c.exit-item.is) c.loop-exit.invariant step
