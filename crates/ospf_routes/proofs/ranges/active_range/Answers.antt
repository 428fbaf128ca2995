use Rattle.std.proofs.Common.{◌≡◌, ap, refl, subst, Bool}
use Rattle.net_model.specs.Configuration.{Configuration}
use Rattle.ospf_routes.proofs.RangeFacts.{range_cost_is, not_active}
use Rattle.ospf_routes.specs.steps.Ranges.{IsPicked}
use Rattle.ospf_routes.proofs.ranges.active_range.Goals as goal

pub returns-in-Some : goal.returns-in-Some
returns-in-Some c =
    let says : c.behind-domain.inside.rfc1583 ≡ c.config.result.now.rfc1583 = ap (λ (d : Configuration). d.rfc1583) c.behind-domain.view_is in
    record {
      range = refl;
      costs = range_cost_is c.args.domain.now.net c.args.b c.config.result.now c.args.outer.range.now c.in_ok-costs.costs.items c.as_slice.result.now
          c.in-Some.cost c.config.ensures.router c.in_ok-costs.ensures c.as_slice.ensures.value
          (subst (λ (b : Bool). IsPicked c.args.outer.range.now b c.as_slice.result.now c.in-Some.cost) says c.in-Some.ensures);
    }

pub returns : goal.returns
returns c =
    not_active c.args.domain.now.net c.args.b c.args.outer.range.now c.in_ok-costs.costs.items c.as_slice.result.now c.in_ok-costs.ensures
    c.as_slice.ensures.value c.in-None.ensures
