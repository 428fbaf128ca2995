use Rattle.route_tables.proofs.SharingLaws.{either_found}
use Rattle.route_tables.proofs.sharing.find_either.Goals as goal

pub returns : goal.returns
returns c = either_found c.args.walks.now c.args.makers c.args.count c.clear.new.self.items c.push_below.new.numbers.items
    c.push_below-2.new.numbers.items c.put_in_order.new.numbers.items c.hops_to.result.now c.hops_to-2.result.now c.clear.ensures.items
    c.in_ok-push_below.ensures.ok c.in_ok-push_below-2.ensures.ok c.put_in_order.ensures.ascending c.put_in_order.ensures.kept
    c.hops_to.ensures.hops c.hops_to-2.ensures.hops
