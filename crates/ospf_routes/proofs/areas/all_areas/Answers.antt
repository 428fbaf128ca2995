use Rattle.std.proofs.lemmas.Result.{IfOk-weaker}
use Rattle.ospf_routes.proofs.AreaFacts.{areas_of_numbers}
use Rattle.ospf_routes.proofs.SegmentFacts.{joined_all}
use Rattle.ospf_routes.proofs.areas.all_areas.Goals as goal

pub returns-clause-areas : goal.returns-clause-areas
returns-clause-areas c =
    let numbers = c.in_ok-numbers.ensures in
    IfOk-weaker c.areas_of.result _ _ (λ all are. areas_of_numbers c.args.net.now c.in_ok-numbers.numbers.items c.as_slice.result.now all.areas.items
    all.segments.items numbers.network c.as_slice.ensures.value numbers.numbers are) c.areas_of.ensures

pub returns-clause-segments : goal.returns-clause-segments
returns-clause-segments c =
    let numbers = c.in_ok-numbers.ensures in
    IfOk-weaker c.areas_of.result _ _ (λ all are. joined_all c.args.net.now all.areas.items all.segments.items
    (areas_of_numbers c.args.net.now c.in_ok-numbers.numbers.items c.as_slice.result.now all.areas.items all.segments.items numbers.network
    c.as_slice.ensures.value numbers.numbers are).every are.join) c.areas_of.ensures
