use Rattle.std.proofs.Common.{List, Any, ap, subst, ◌∙◌}
use Rattle.net_model.specs.Configuration.{Configuration}
use Rattle.net_model.specs.Least.{IsBest, IsBlockAtMost}
use Rattle.net_model.specs.steps.Scans.{OffersDest}
use Rattle.net_model.specs.declared.interface.Interface.{Interface}
use Rattle.net_model.proofs.AreaClashes.{RunTwoAreas-best}
use Rattle.net_model.proofs.RouterFacts.{HasConfiguration-at}
use Rattle.net_model.proofs.areas.TwoAreasClash.least.Goals as goal

pub returns : goal.returns
returns c =
    let net = c.args.configs.now in
    let near = c.as_slice.ensures ∙ ap (λ (x : Configuration). x.interfaces) c.near.view_is in
    let far = c.as_slice-2.ensures ∙ ap (λ (x : Configuration). x.interfaces) c.far.view_is in
    let best = subst (λ (l : List Interface). IsBest IsBlockAtMost (λ p. Any (OffersDest c.index-configs-two.result.interfaces p) l) c.least_dest.result) near
    (subst (λ (l : List Interface). IsBest IsBlockAtMost (λ p. Any (OffersDest l p) c.as_slice.result.now) c.least_dest.result) far c.least_dest.ensures) in
    RunTwoAreas-best net c.args.one c.args.two c.index-configs-one.result c.index-configs-two.result
    (HasConfiguration-at net c.args.one c.index-configs-one.result c.requires.one c.index-configs-one.is)
    (HasConfiguration-at net c.args.two c.index-configs-two.result c.requires.two c.index-configs-two.is)
    c.least_dest.result best
