use Rattle.std.proofs.Common.{◌≡◌, List, subst}
use Rattle.std.specs.List.{Any}
use Rattle.ospf_routes.specs.Lists.{Adds}
use Rattle.ospf_routes.specs.declared.ranges.ActiveRange.{ActiveRange}
use Rattle.route_tables.proofs.ListFacts.{adds_more, adds_end}
use Rattle.ospf_routes.proofs.RangeFacts.{hold_ranges}
use Rattle.ospf_routes.proofs.ranges.range_prefixes.Goals as goal

pub loop-actives-preserved : goal.loop-actives-preserved
loop-actives-preserved c =
    adds_more (λ p (actives : List ActiveRange). Any (λ (a : ActiveRange). a.range.dest ≡ p) actives) c.new-prefixes.result.items
    c.loop-actives.prefixes.items c.push_prefixes.new.prefixes.items c.args.ranges.now c.loop-actives.actives-index c.actives-item.result
    c.loop-actives-test.true c.actives-item.is c.loop-actives.invariant
    (subst (λ (l : List ActiveRange). Adds c.loop-actives.prefixes.items c.push_prefixes.new.prefixes.items
    (λ p. Any (λ (a : ActiveRange). a.range.dest ≡ p) l))
    c.as_slice.ensures c.in_ok-push_prefixes.ensures)

pub returns : goal.returns
returns c =
    hold_ranges c.args.ranges.now c.new-prefixes.result.items c.loop-actives.prefixes.items c.new-prefixes.ensures.items
    (adds_end (λ p (actives : List ActiveRange). Any (λ (a : ActiveRange). a.range.dest ≡ p) actives) c.new-prefixes.result.items c.loop-actives.prefixes.items
    c.args.ranges.now c.loop-actives.actives-index c.loop-actives-test.false c.loop-actives.invariant)
