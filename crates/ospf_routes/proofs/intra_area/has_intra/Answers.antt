use Rattle.std.proofs.Common.{◌∙◌, sym, refl, ℕ}
use Rattle.std.proofs.lemmas.Bool.{false≢true}
use Rattle.igp_theory.specs.Ospf.{IntraAreaCost}
use Rattle.ospf_routes.proofs.IntraFacts.{no_intra_anywhere, part_at, some_part}
use Rattle.route_tables.proofs.ListFacts.{some_of, within_more, none_of, all_passed}
use Rattle.ospf_routes.specs.declared.intra_area.AreaOffers.{AreaOffers}
use Rattle.ospf_routes.proofs.intra_area.has_intra.Goals as goal

pub part_cost-requires-clause-part : goal.part_cost-requires-clause-part
part_cost-requires-clause-part c =
    let given = c.as_slice-part-items in
    some_part (part_at c.args.domain.now c.args.destination.now given.result.now c.loop-part.part-index c.part-item.result
    c.requires.destination given.ensures.value c.loop-part-test.true c.part-item.is)

pub returns-then-is_some : goal.returns-then-is_some
returns-then-is_some c =
    let d = c.args.destination.now in
    let given = c.as_slice-part-items in
    let part_is = part_at c.args.domain.now d given.result.now c.loop-part.part-index c.part-item.result c.requires.destination
    given.ensures.value c.loop-part-test.true c.part-item.is in
    let s = some_of c.part_cost.result (sym c.is_some.ensures ∙ c.if-is_some.true) in
    (λ _. record { area = c.part-item.result.area; cost = s.0; costs = (c.part_cost.ensures d.dest part_is s.0).0 s.1 }, λ _. refl)

pub loop-part-preserved : goal.loop-part-preserved
loop-part-preserved c =
    let d = c.args.destination.now in
    let given = c.as_slice-part-items in
    let i = c.loop-part.part-index in
    let part = c.part-item.result in
    let part_is = part_at c.args.domain.now d given.result.now i part c.requires.destination given.ensures.value
    c.loop-part-test.true c.part-item.is in
    within_more (λ (a : AreaOffers). (k : ℕ) → IntraAreaCost c.args.domain.now.net a.area d.dest c.args.u k → ⊥) given.result.now i part
    c.loop-part-test.true c.part-item.is c.loop-part.invariant
    (λ k costs. none_of c.part_cost.result (sym c.is_some.ensures ∙ c.if-is_some.false) k ((c.part_cost.ensures d.dest part_is k).1 costs))

pub returns : goal.returns
returns c = (
  λ e. absurd (false≢true e),
  λ is. absurd (no_intra_anywhere c.args.domain.now.net c.args.destination.now c.as_slice-part-items.result.now c.args.u
      c.requires.destination.is c.as_slice-part-items.ensures.value
      (all_passed (λ (a : AreaOffers). (k : ℕ) → IntraAreaCost c.args.domain.now.net a.area c.args.destination.now.dest c.args.u k → ⊥)
      c.as_slice-part-items.result.now c.loop-part.part-index c.loop-part-test.false c.loop-part.invariant) is),
)
