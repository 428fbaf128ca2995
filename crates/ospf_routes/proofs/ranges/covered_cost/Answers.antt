use Rattle.std.proofs.Common.{◌≡◌, ◌↔◌, ℕ, List, Option, Some, refl, subst, sym}
use Rattle.std.specs.List.{Contains}
use Rattle.std.proofs.lemmas.Bool.{false≢true}
use Rattle.std.proofs.lemmas.Option.{none-some}
use Rattle.igp_theory.specs.Ospf.{IntraAreaCost}
use Rattle.ospf_routes.specs.steps.Ranges.{IsCoveredAt}
use Rattle.ospf_routes.proofs.IntraFacts.{no_intra_given, part_for, some_part}
use Rattle.ospf_routes.specs.declared.intra_area.AreaOffers.{AreaOffers}
use Rattle.ospf_routes.proofs.ranges.covered_cost.Goals as goal

pub returns-then-not-covers : goal.returns-then-not-covers
returns-then-not-covers c cost = (λ no. absurd (none-some cost no), λ is. absurd (false≢true (c.if-not-covers.ensures.1 is.covered)))

pub returns-in_err-part : goal.returns-in_err-part
returns-in_err-part c =
    let d = c.args.destination.now in
    subst (λ (found : Option ℕ). (cost : ℕ) → (found ≡ Some cost) ↔ IsCoveredAt c.args.domain.now.net c.args.b c.args.range d.dest cost)
    (sym c.from_residual.ensures)
    (λ cost. (
      λ no. absurd (none-some cost no),
      λ is. absurd (no_intra_given c.args.domain.now.net d c.as_slice.result.now c.args.range.area c.args.b
          c.requires.destination.is c.as_slice.ensures.value c.in_err-part.ensures.none cost is.reached),
    ))

pub part_cost-requires-clause-part : goal.part_cost-requires-clause-part
part_cost-requires-clause-part c =
    some_part (part_for c.args.domain.now c.args.destination.now c.in_ok-part.part.now c.requires.destination
    (subst (λ (l : List AreaOffers). Contains l c.in_ok-part.part.now) c.as_slice.ensures.value c.in_ok-part.ensures.among))

pub returns : goal.returns
returns c =
    let net = c.args.domain.now.net in
    let d = c.args.destination.now in
    let part = c.in_ok-part.part.now in
    let costs = subst (λ (n : ℕ). (cost : ℕ) → (c.part_cost.result ≡ Some cost) ↔ IntraAreaCost net n d.dest c.args.b cost) c.in_ok-part.ensures.area
    (c.part_cost.ensures d.dest (part_for c.args.domain.now d part c.requires.destination
    (subst (λ (l : List AreaOffers). Contains l part) c.as_slice.ensures.value c.in_ok-part.ensures.among))) in
    λ cost. (
      λ same. record { covered = c.if-not-covers.ensures.0 refl; reached = (costs cost).0 same },
      λ is. (costs cost).1 is.reached,
    )
