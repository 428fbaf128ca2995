use Rattle.std.proofs.Common.{◌≡◌, List, subst, sym}
use Rattle.net_addr.specs.Addresses.{Block}
use Rattle.ospf_routes.specs.Lists.{Adds}
use Rattle.ospf_routes.specs.declared.ranges.ActiveRange.{ActiveRange}
use Rattle.route_tables.proofs.ListFacts.{adds_more, adds_end, adds_one}
use Rattle.ospf_routes.proofs.ranges.push_prefixes.Goals as goal

pub loop-active-preserved : goal.loop-active-preserved
loop-active-preserved c =
    adds_more (λ p (a : ActiveRange). a.range.dest ≡ p) c.args.prefixes.now.items c.loop-active.prefixes.items c.push.new.self.items c.args.actives.now
    c.loop-active.active-index c.active-item.result c.loop-active-test.true c.active-item.is c.loop-active.invariant
    (subst (λ (l : List Block). Adds c.loop-active.prefixes.items l (λ p. c.active-item.result.range.dest ≡ p)) (sym c.in_ok-push.ensures.items)
    (adds_one c.loop-active.prefixes.items c.active-item.result.range.dest))

pub returns : goal.returns
returns c =
    adds_end (λ p (a : ActiveRange). a.range.dest ≡ p) c.args.prefixes.now.items c.loop-active.prefixes.items c.args.actives.now c.loop-active.active-index
    c.loop-active-test.false c.loop-active.invariant
