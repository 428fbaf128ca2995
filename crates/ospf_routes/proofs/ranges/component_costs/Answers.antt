use Rattle.std.proofs.Common.{ℕ}
use Rattle.std.specs.List.{Any, Contains}
use Rattle.std.proofs.lemmas.Result.{IfOk-weaker}
use Rattle.std.proofs.lemmas.List.Elements.{All-contains, All-contains_itself, All-weaker}
use Rattle.ospf_routes.proofs.RangeFacts.{components_near}
use Rattle.igp_theory.specs.Ospf.{IsComponent}
use Rattle.ospf_routes.specs.Lists.{Exactly}
use Rattle.ospf_routes.specs.steps.Ranges.{HasComponentCost}
use Rattle.ospf_routes.specs.steps.Destinations.{IsDestinationIn}
use Rattle.ospf_routes.specs.declared.intra_area.Destination.{Destination}
use Rattle.ospf_routes.proofs.ranges.component_costs.Goals as goal

pub costs_among-requires-clause-near : goal.costs_among-requires-clause-near
costs_among-requires-clause-near c =
    let Is : Destination → Type 0 = IsDestinationIn c.args.domain.now in
    All-weaker (Contains c.under-near.result.now) Is
    (λ d has. All-contains Is c.args.destinations.now d c.requires.destinations.each (c.under-near.ensures.among d has))
    c.under-near.result.now (All-contains_itself c.under-near.result.now)

pub returns : goal.returns
returns c =
    let net = c.args.domain.now.net in
    IfOk-weaker c.costs_among.result
    (λ costs. Exactly (λ (n : ℕ). Any (λ (d : Destination). IsComponent net c.args.b c.args.outer.range.now d.dest n) c.under-near.result.now) costs.items)
    (λ costs. Exactly (HasComponentCost net c.args.b c.args.outer.range.now) costs.items)
    (λ costs are. components_near net c.args.b c.args.outer.range.now c.args.destinations.now c.under-near.result.now costs.items
    c.requires.destinations.every c.under-near.ensures.every are)
    c.costs_among.ensures
