use Rattle.std.proofs.Common.{◌≡◌, ◌^◌, ◌<◌, ◌↔◌, ℕ, Option, None, Some, arith, refl, subst, sym}
use Rattle.std.proofs.lemmas.Bool.{false≢true}
use Rattle.std.proofs.lemmas.Option.{none-some}
use Rattle.igp_theory.specs.Ospf.{BackboneSummary, BorderCost}
use Rattle.ospf_routes.proofs.CostBounds.{in_range, backbone_is_small}
use Rattle.ospf_routes.proofs.RangeFacts.{active_range_is}
use Rattle.ospf_routes.proofs.SummaryFacts.{no_border_cost, border_cost_is}
use Rattle.ospf_routes.proofs.backbone_routes.border_cost.Goals as goal

pub best_cost-requires : goal.best_cost-requires
best_cost-requires c =
    let given = c.args.leaving.backbone.now in
    in_range c.in_ok-walks.walks.now (BackboneSummary c.args.domain.now.net c.args.leaving.destination.now.dest) given given
    c.in_ok-walks.ensures.some.near c.requires.leaving.backbone refl
    (λ at asks s. let small : asks < 2 ^ 41 = backbone_is_small c.args.domain.now.net c.args.domain.now.areas c.args.leaving.destination.now.dest at asks
    c.reach.ensures.known s in omega arith)

pub returns-in_err-cost : goal.returns-in_err-cost
returns-in_err-cost c =
    let net = c.args.domain.now.net in
    let p = c.args.leaving.destination.now.dest in
    subst (λ (found : Option ℕ). (cost : ℕ) → (found ≡ Some cost) ↔ BorderCost net p c.args.u cost) (sym c.from_residual-in_err-cost.ensures)
    (no_border_cost net p c.args.u (λ cost costs. none-some cost
    ((border_cost_is net p c.args.u c.in_ok-walks.walks.now c.args.leaving.backbone.now c.requires.border c.in_ok-walks.ensures.some
    c.requires.leaving.backbone None
    c.in_err-cost.ensures cost).0 costs).0))

pub returns-then-is_range_among : goal.returns-then-is_range_among
returns-then-is_range_among c =
    no_border_cost c.args.domain.now.net c.args.leaving.destination.now.dest c.args.u
    (λ _ costs. costs.no_range ((active_range_is c.args.domain.now.net c.args.u c.args.leaving.destination.now.dest c.args.ranges.now c.requires.ranges).0
    (c.if-is_range_among.ensures.0 refl).1))

pub returns : goal.returns
returns c = λ cost.
    let net = c.args.domain.now.net in
    let p = c.args.leaving.destination.now.dest in
    let is = border_cost_is net p c.args.u c.in_ok-walks.walks.now c.args.leaving.backbone.now c.requires.border c.in_ok-walks.ensures.some
    c.requires.leaving.backbone (Some c.in_ok-cost.cost) c.in_ok-cost.ensures cost in (
      λ same. is.1 (
        same,
        λ intra. false≢true (c.if-has_intra.ensures.1 intra),
        λ range. false≢true (c.if-is_range_among.ensures.1
            (c.requires.leaving.ranged c.args.u range, (active_range_is net c.args.u p c.args.ranges.now c.requires.ranges).1 range)),
      ),
      λ costs. (is.0 costs).0,
    )
