use Rattle.ospf_routes.proofs.IntraFacts.{part_in_range}
use Rattle.ospf_routes.proofs.intra_area.part_reach.Goals as goal

pub returns-then-has-clause-reach : goal.returns-then-has-clause-reach
returns-then-has-clause-reach c = c.walks.ensures.reach c.args.part.now.area c.requires.part.1.at

pub returns-then-has-clause-range : goal.returns-then-has-clause-range
returns-then-has-clause-range c =
    let part = c.args.part.now in
    part_in_range c.args.domain.now c.requires.part.0 part c.args.u c.walks.result.now c.walks.ensures.known.network
    c.requires.part.1 (c.walks.ensures.reach part.area c.requires.part.1.at)
