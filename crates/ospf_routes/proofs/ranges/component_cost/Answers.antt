use Rattle.std.proofs.Common.{◌≡◌, ◌↔◌, ℕ, Option, Some, refl, subst, sym}
use Rattle.std.proofs.lemmas.Bool.{false≢true}
use Rattle.std.proofs.lemmas.Option.{none-some}
use Rattle.igp_theory.specs.Ospf.{IsComponent}
use Rattle.ospf_routes.proofs.RangeFacts.{component_at, no_component}
use Rattle.ospf_routes.proofs.ranges.component_cost.Goals as goal

pub returns-in_err-cost : goal.returns-in_err-cost
returns-in_err-cost c =
    subst (λ (found : Option ℕ). (cost : ℕ) → (found ≡ Some cost) ↔
    IsComponent c.args.domain.now.net c.args.b c.args.outer.range.now c.args.destination.now.dest cost)
    (sym c.from_residual.ensures)
    (λ cost. (
      λ no. absurd (none-some cost no),
      λ is. absurd (none-some cost ((c.in_err-cost.ensures cost).1 (record { covered = is.covered; reached = is.reached }))),
    ))

pub returns-then-has_longer : goal.returns-then-has_longer
returns-then-has_longer c cost = (
  λ no. absurd (none-some cost no),
  λ is. absurd (no_component c.args.domain.now.net c.args.b c.args.outer c.args.destination.now.dest c.requires.outer
      (c.if-has_longer.ensures.has.0 refl) cost is),
)

pub returns : goal.returns
returns c cost =
    let same = component_at c.args.domain.now.net c.args.b c.args.outer c.args.destination.now.dest c.requires.outer c.if-has_longer.ensures.block
    (λ any. false≢true (c.if-has_longer.ensures.has.1 any)) cost in
    let own = c.in_ok-cost.ensures cost in (
      λ is. same.0 (own.0 is),
      λ is. own.1 (same.1 is),
    )
