use Rattle.std.proofs.Common.{◌≡◌, ◌∙◌, List, length, ap, subst, arith}
use Rattle.std.specs.List.{Any}
use Rattle.net_model.specs.Configuration.{Configuration}
use Rattle.net_model.specs.declared.interface.Interface.{Interface}
use Rattle.route_tables.specs.Lists.{Adds}
use Rattle.isis_routes.specs.steps.Candidates.{HasIsisSubnet}
use Rattle.isis_routes.proofs.CandidateLists.{candidates_more, candidates_all}
use Rattle.isis_routes.proofs.candidates.candidates_of.Goals as goal

pub loop-router-preserved : goal.loop-router-preserved
loop-router-preserved c =
    let config : Configuration = c.config.result.now in
    let are : c.as_slice.result.now ≡ config.interfaces = c.as_slice.ensures ∙ ap (λ (d : Configuration). d.interfaces) c.behind-net.view_is in
    candidates_more c.args.net.now c.loop-router.router config c.loop-router.dests c.add_subnets.new.dests c.config.ensures.router c.loop-router.invariant
    (subst (λ (l : List Interface). Adds c.loop-router.dests c.add_subnets.new.dests (λ p. Any (HasIsisSubnet p) l)) are c.in_ok-add_subnets.ensures)

pub returns : goal.returns
returns c =
    let count : length c.args.net.now ≡ c.loop-router.router = omega (arith, c.routers-router-end.ensures.count) in
    λ p is. (c.finish.ensures p).1 (candidates_all c.args.net.now c.loop-router.router c.loop-router.dests count c.loop-router.invariant p is)
