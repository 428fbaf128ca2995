use Rattle.std.proofs.Common.{ℕ, List, sym, subst}
use Rattle.ospf_routes.proofs.RouteFacts.{some_of_more, united_of_all}
use Rattle.ospf_routes.specs.steps.Routing.{AreUnited}
use Rattle.ospf_routes.proofs.united.united.Goals as goal

pub loop-list-preserved : goal.loop-list-preserved
loop-list-preserved c =
    some_of_more c.args.lists.now c.loop-list.list-index c.list-item.result c.as_slice.result.now c.args.count c.loop-list.hops.items
    c.push_below.new.numbers.items
    c.loop-list-test.true c.list-item.is c.as_slice.ensures c.loop-list.invariant c.in_ok-push_below.ensures.ok

pub returns : goal.returns
returns c =
    subst (λ (l : List ℕ). AreUnited c.args.lists.now c.args.count l) (sym c.from_vec.ensures)
    (united_of_all c.args.lists.now c.loop-list.list-index c.args.count c.loop-list.hops.items c.put_in_order.new.numbers.items
    c.loop-list-test.false c.loop-list.invariant c.put_in_order.ensures.ascending c.put_in_order.ensures.kept)
