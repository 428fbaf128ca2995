use Rattle.std.proofs.Common.{arith}
use Rattle.std.proofs.lemmas.Grind.{common_steps}
use Rattle.std.proofs.Common.{subst, List, take}
use Rattle.std.proofs.lemmas.List.{take_all}
use Rattle.net_addr.proofs.SomeElement.{one_more}
use Rattle.ospf_routes.proofs.IntraFacts.{part_at, some_part}
use Rattle.ospf_routes.proofs.RouteFacts.{AreaListsSoFar, area_lists_more, area_lists_all}
use Rattle.ospf_routes.specs.declared.intra_area.AreaOffers.{AreaOffers}
use Rattle.ospf_routes.proofs.entry.area_lists.Goals as goal

pub area_hops-requires-clause-part : goal.area_hops-requires-clause-part
area_hops-requires-clause-part c =
    let asked = c.args.asked in
    let given = c.as_slice-part-items in
    some_part (part_at asked.domain.now asked.destination.now given.result.now c.loop-part.part-index c.part-item.result
    c.requires.destination given.ensures.value c.loop-part-test.true c.part-item.is)

pub loop-part-preserved : goal.loop-part-preserved
loop-part-preserved c =
    let asked = c.args.asked in
    let net = asked.domain.now.net in
    let d = asked.destination.now in
    let given : List AreaOffers = c.as_slice-part-items.result.now in
    let i = c.loop-part.part-index in
    let a : AreaOffers = c.part-item.result in
    let part_is = part_at asked.domain.now d given i a c.requires.destination c.as_slice-part-items.ensures.value c.loop-part-test.true
    c.part-item.is in
    let all = c.push_option.new.all.items in
    subst (λ (l : List AreaOffers). AreaListsSoFar net d.dest asked.router l all) (one_more given i a c.loop-part-test.true c.part-item.is)
    (area_lists_more net d.dest asked.router (take i given) a c.loop-part.lists.items all c.in_ok-area_hops.field-0 c.loop-part.invariant
    (c.in_ok-area_hops.ensures d.dest part_is) c.in_ok-push_option.ensures.ok)

pub returns : goal.returns
returns c = grind (arith, common_steps, area_lists_all, take_all)
