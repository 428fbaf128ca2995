use Rattle.std.proofs.Common.{◌≡◌, List, subst, ap, ◌∙◌}
use Rattle.net_model.specs.Configuration.{Configuration}
use Rattle.net_model.specs.steps.BestLinks.{BestLink}
use Rattle.net_model.specs.declared.interface.Interface.{Interface}
use Rattle.net_model.proofs.Adjacency.{LeastArc-from_best}
use Rattle.net_model.proofs.net.Net.arc.Goals as goal

pub returns : goal.returns
returns c =
    let near : c.as_slice.result.now ≡ c.config-near.result.now.interfaces = c.as_slice.ensures ∙ ap (λ (x : Configuration). x.interfaces) c.near.view_is in
    let far : c.as_slice-2.result.now ≡ c.config-far.result.now.interfaces = c.as_slice-2.ensures ∙ ap (λ (x : Configuration). x.interfaces) c.far.view_is in
    let best = subst (λ (l : List Interface). BestLink c.args.zone l c.config-far.result.now.interfaces c.best_link.result) near
    (subst (λ (l : List Interface). BestLink c.args.zone c.as_slice.result.now l c.best_link.result) far c.best_link.ensures) in
    LeastArc-from_best c.args.self.now c.args.zone c.args.u c.args.v c.config-near.result.now c.config-far.result.now c.config-near.ensures.router
    c.config-far.ensures.router c.best_link.result
    c.if-u-v.false (c.may_join.ensures.0 c.if-not-may_join.false) best
