use Rattle.std.proofs.Common.{◌≡◌, ◌∙◌, List, length, ap, subst, arith}
use Rattle.std.specs.List.{Any}
use Rattle.net_model.specs.Configuration.{Configuration}
use Rattle.net_model.specs.declared.area.Range.{Range}
use Rattle.net_model.specs.declared.interface.Interface.{Interface}
use Rattle.route_tables.specs.Lists.{Adds}
use Rattle.ospf_routes.specs.steps.Candidates.{HasOspfSubnet, IsRangeOver}
use Rattle.ospf_routes.proofs.CandidateLists.{candidates_more, candidates_all}
use Rattle.ospf_routes.proofs.candidates.candidates_of.Goals as goal

pub loop-router-preserved : goal.loop-router-preserved
loop-router-preserved c =
    let config : Configuration = c.config-config.result.now in
    let are : c.as_slice.result.now ≡ config.interfaces = c.as_slice.ensures ∙ ap (λ (d : Configuration). d.interfaces) c.config.view_is in
    let ranges_are : c.as_slice-in-loop-router.result.now ≡ config.ranges = c.as_slice-in-loop-router.ensures
    ∙ ap (λ (d : Configuration). d.ranges) c.config.view_is in
    candidates_more c.args.net.now c.args.subnets.now c.loop-router.router config c.loop-router.dests c.add_subnets.new.dests c.add_ranges.new.dests
    c.config-config.ensures.router c.loop-router.invariant
    (subst (λ (l : List Interface). Adds c.loop-router.dests c.add_subnets.new.dests (λ p. Any (HasOspfSubnet p) l)) are c.in_ok-add_subnets.ensures)
    (subst (λ (l : List Range). Adds c.add_subnets.new.dests c.add_ranges.new.dests (λ p. Any (IsRangeOver c.args.subnets.now p) l))
    ranges_are c.in_ok-add_ranges.ensures)

pub returns : goal.returns
returns c =
    let count : length c.args.net.now ≡ c.loop-router.router = omega (arith, c.routers-router-end.ensures.count) in
    λ p is. (c.finish.ensures p).1 (candidates_all c.args.net.now c.args.subnets.now c.loop-router.router c.loop-router.dests count
    c.requires c.loop-router.invariant p is)
