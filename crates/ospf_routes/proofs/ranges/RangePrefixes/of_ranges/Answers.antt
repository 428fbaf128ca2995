use Rattle.ospf_routes.proofs.ranges.RangePrefixes.of_ranges.Goals as goal

pub returns : goal.returns
returns c = λ net are p u is. (c.sort_by_base.ensures.kept p).1 (c.in_ok-all.ensures net are p u is)
