use Rattle.std.proofs.Common.{◌∙◌, sym, refl, ℕ}
use Rattle.std.proofs.lemmas.Bool.{false≢true}
use Rattle.route_tables.proofs.ListFacts.{contains_at, some_of, within_more, none_of, all_passed}
use Rattle.ospf_routes.specs.steps.Ranges.{IsCoveredAt}
use Rattle.ospf_routes.specs.declared.ranges.ActiveRange.{ActiveRange}
use Rattle.ospf_routes.proofs.RangeFacts.{active_is_range, covered_is_component, no_component_of}
use Rattle.ospf_routes.proofs.ranges.is_component.Goals as goal

pub returns-then-is_some : goal.returns-then-is_some
returns-then-is_some c =
    let s = some_of c.covered_cost.result (sym c.is_some.ensures ∙ c.if-is_some.true) in
    let a = c.active-item.result in
    let has = active_is_range c.args.domain.now.net c.args.b c.args.actives.now a c.requires.ranges
    (contains_at c.args.actives.now c.loop-active.active-index a c.loop-active-test.true c.active-item.is) in (
      λ _. covered_is_component c.args.domain.now.net c.args.b a.range c.args.destination.now.dest s.0 has ((c.covered_cost.ensures s.0).0 s.1),
      λ _. refl,
    )

pub loop-active-preserved : goal.loop-active-preserved
loop-active-preserved c =
    within_more (λ (a : ActiveRange). (k : ℕ) → IsCoveredAt c.args.domain.now.net c.args.b a.range c.args.destination.now.dest k → ⊥)
    c.args.actives.now c.loop-active.active-index c.active-item.result c.loop-active-test.true c.active-item.is c.loop-active.invariant
    (λ k is. none_of c.covered_cost.result (sym c.is_some.ensures ∙ c.if-is_some.false) k ((c.covered_cost.ensures k).1 is))

pub returns : goal.returns
returns c = (
  λ e. absurd (false≢true e),
  λ is. absurd (no_component_of c.args.domain.now.net c.args.b c.args.actives.now c.args.destination.now.dest c.requires.ranges
      (all_passed (λ (a : ActiveRange). (k : ℕ) → IsCoveredAt c.args.domain.now.net c.args.b a.range c.args.destination.now.dest k → ⊥)
      c.args.actives.now c.loop-active.active-index c.loop-active-test.false c.loop-active.invariant) is),
)
