use Rattle.std.proofs.lemmas.Grind.{common_steps}
use Rattle.std.proofs.Common.{ap, subst, ◌∙◌, arith}
use Rattle.net_model.specs.Conditions.{LacksBackbone}
use Rattle.net_model.specs.Configuration.{Configuration}
use Rattle.net_model.specs.steps.Scans.{LeaveBackbone}
use Rattle.net_model.proofs.BorderFacts.{LacksBackbone-from, LacksBackbone-within, list_from_LacksBackbone}
use Rattle.net_model.proofs.RouterFacts.{HasConfiguration-at, IsLowest-from}
use Rattle.net_model.proofs.borders.first_off_backbone.Goals as goal

pub returns-then-leave_backbone : goal.returns-then-leave_backbone
returns-then-leave_backbone c =
    let net = c.args.configs.now in
    let u = c.loop-router.router in
    let config = c.index-configs-router.result in
    let is = c.as_slice.ensures ∙ ap (λ (x : Configuration). x.interfaces) c.config.view_is in
    let here = subst LeaveBackbone is (c.leave_backbone.ensures.0 c.if-leave_backbone.true) in
    IsLowest-from (LacksBackbone net) u (LacksBackbone-from net u config (HasConfiguration-at net u config c.loop-router-test.true c.index-configs-router.is)
    here) c.loop-router.invariant

pub loop-router-preserved : goal.loop-router-preserved
loop-router-preserved c = grind (arith, common_steps, HasConfiguration-at, list_from_LacksBackbone)

pub returns : goal.returns
returns c = λ u h.
    let within = LacksBackbone-within c.args.configs.now u h in
    c.loop-router.invariant u (omega arith) h
