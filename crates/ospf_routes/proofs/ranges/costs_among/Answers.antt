use Rattle.std.proofs.Common.{ℕ, subst, sym}
use Rattle.std.specs.List.{Any}
use Rattle.igp_theory.specs.Ospf.{IsComponent}
use Rattle.route_tables.proofs.ListFacts.{adds_step, exactly_added, adds_end}
use Rattle.ospf_routes.specs.steps.Destinations.{IsDestinationIn}
use Rattle.ospf_routes.specs.declared.intra_area.Destination.{Destination}
use Rattle.ospf_routes.proofs.ranges.costs_among.Goals as goal

pub component_cost-cost-requires-clause-destination : goal.component_cost-cost-requires-clause-destination
component_cost-cost-requires-clause-destination c =
    subst (IsDestinationIn c.args.domain.now) (sym c.destination-item.is)
    (c.requires.near c.loop-destination.destination-index c.destination-item.result c.loop-destination-test.true)

pub loop-destination-preserved : goal.loop-destination-preserved
loop-destination-preserved c =
    adds_step (λ (n : ℕ) (d : Destination). IsComponent c.args.domain.now.net c.args.b c.args.outer.range.now d.dest n)
    c.new-costs.result.items c.loop-destination.costs.items c.push_option.new.all.items c.args.near.now c.loop-destination.destination-index
    c.destination-item.result c.component_cost-cost.result c.loop-destination-test.true c.destination-item.is c.loop-destination.invariant
    c.in_ok-push_option.ensures.ok c.component_cost-cost.ensures

pub returns : goal.returns
returns c =
    exactly_added c.new-costs.result.items c.loop-destination.costs.items
    (λ (n : ℕ). Any (λ (d : Destination). IsComponent c.args.domain.now.net c.args.b c.args.outer.range.now d.dest n) c.args.near.now)
    c.new-costs.ensures.items
    (adds_end (λ (n : ℕ) (d : Destination). IsComponent c.args.domain.now.net c.args.b c.args.outer.range.now d.dest n)
    c.new-costs.result.items c.loop-destination.costs.items c.args.near.now c.loop-destination.destination-index c.loop-destination-test.false
    c.loop-destination.invariant)
