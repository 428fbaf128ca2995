use Rattle.std.proofs.Common.{◌≡◌, ℕ, arith, Some}
use Rattle.route_tables.proofs.ListFacts.{below_step, adds_same, exactly_below}
use Rattle.ospf_routes.specs.steps.Members.{IsBorderIn, IsThisBorderAmong}
use Rattle.ospf_routes.proofs.BorderLists.{inner_below_count, inner_is}
use Rattle.ospf_routes.proofs.members.Borders.of_area.Goals as goal

pub loop-u-preserved : goal.loop-u-preserved
loop-u-preserved c =
    below_step (IsThisBorderAmong c.args.net.now c.args.members.now) c.new-routers.result.items c.loop-u.routers.items c.push_option.new.all.items
    c.loop-u.u c.loop-u.invariant
    (adds_same c.loop-u.routers.items c.push_option.new.all.items (λ (v : ℕ). c.border_inside.result ≡ Some v)
    (IsThisBorderAmong c.args.net.now c.args.members.now c.loop-u.u)
    c.in_ok-push_option.ensures.ok c.border_inside.ensures)

pub returns : goal.returns
returns c =
    exactly_below (IsThisBorderAmong c.args.net.now c.args.members.now) (IsBorderIn c.args.net.now c.args.number) c.new-routers.result.items
    c.loop-u.routers.items c.loop-u.u c.new-routers.ensures.items c.loop-u.invariant
    (inner_below_count c.args.net.now c.args.number c.args.members.now c.loop-u.u c.requires.members (omega (arith, c.routers-u-end.ensures.count)))
    (λ u v is. inner_is c.args.net.now c.args.number c.args.members.now u v c.requires.members is)
