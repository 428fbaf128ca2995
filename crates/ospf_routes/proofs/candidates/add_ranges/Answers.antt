use Rattle.route_tables.proofs.ListFacts.{adds_step, adds_end}
use Rattle.ospf_routes.specs.steps.Candidates.{IsRangeOver}
use Rattle.ospf_routes.proofs.candidates.add_ranges.Goals as goal

pub loop-range-preserved : goal.loop-range-preserved
loop-range-preserved c =
    adds_step (IsRangeOver c.args.subnets.now) c.args.dests.now c.loop-range.dests c.add_option.new.self c.args.ranges.now c.loop-range.range-index
    c.range-item.result c.dest_over.result
    c.loop-range-test.true c.range-item.is c.loop-range.invariant c.in_ok-add_option.ensures.ok c.dest_over.ensures

pub returns : goal.returns
returns c =
    adds_end (IsRangeOver c.args.subnets.now) c.args.dests.now c.loop-range.dests c.args.ranges.now c.loop-range.range-index c.loop-range-test.false
    c.loop-range.invariant
