use Rattle.std.proofs.Common.{◌≡◌, ℕ, arith, Some}
use Rattle.net_model.specs.Network.{IsBorderRouter}
use Rattle.route_tables.proofs.ListFacts.{below_step, adds_same, exactly_below}
use Rattle.ospf_routes.specs.steps.AreaReach.{IsThisBorder}
use Rattle.ospf_routes.proofs.BorderLists.{border_below_count}
use Rattle.ospf_routes.proofs.domain.Domain.borders.Goals as goal

pub loop-u-preserved : goal.loop-u-preserved
loop-u-preserved c =
    below_step (IsThisBorder c.args.self.now.net) c.new-borders.result.items c.loop-u.borders.items c.push_option.new.all.items c.loop-u.u c.loop-u.invariant
    (adds_same c.loop-u.borders.items c.push_option.new.all.items (λ (v : ℕ). c.border.result ≡ Some v) (IsThisBorder c.args.self.now.net c.loop-u.u)
    c.in_ok-push_option.ensures.ok c.border.ensures)

pub returns : goal.returns
returns c =
    exactly_below (IsThisBorder c.args.self.now.net) (IsBorderRouter c.args.self.now.net) c.new-borders.result.items c.loop-u.borders.items c.loop-u.u
    c.new-borders.ensures.items c.loop-u.invariant
    (border_below_count c.args.self.now.net c.loop-u.u (omega (arith, c.routers-u-end.ensures.count))) (λ u v is. is.border)
