use Rattle.std.proofs.Common.{◌≤◌, List, nat_eq, Any, ap, subst, ◌∙◌}
use Rattle.std.proofs.lemmas.Bool.{eqb-true, eq-eqb}
use Rattle.net_model.specs.Configuration.{Configuration}
use Rattle.net_model.specs.Least.{IsBest}
use Rattle.net_model.specs.steps.Scans.{OffersAddress}
use Rattle.net_model.specs.declared.interface.Interface.{Interface}
use Rattle.net_model.proofs.AddressClashes.{HaveOneAddress-best}
use Rattle.net_model.proofs.RouterFacts.{HasConfiguration-at}
use Rattle.net_model.proofs.addresses.OneAddressClash.least.Goals as goal

pub returns : goal.returns
returns c =
    let net = c.args.configs.now in
    let near = c.as_slice.ensures ∙ ap (λ (x : Configuration). x.interfaces) c.near.view_is in
    let far = c.as_slice-2.ensures ∙ ap (λ (x : Configuration). x.interfaces) c.far.view_is in
    let same = nat_eq c.args.one c.args.two in
    let best = subst (λ (l : List Interface). IsBest (λ a b. a ≤ b) (λ a. Any (OffersAddress same c.index-configs-two.result.interfaces a) l)
    c.least_address.result) near
    (subst (λ (l : List Interface). IsBest (λ a b. a ≤ b) (λ a. Any (OffersAddress same l a) c.as_slice.result.now) c.least_address.result) far
    c.least_address.ensures) in
    HaveOneAddress-best net c.args.one c.args.two c.index-configs-one.result c.index-configs-two.result
    (HasConfiguration-at net c.args.one c.index-configs-one.result c.requires.one c.index-configs-one.is)
    (HasConfiguration-at net c.args.two c.index-configs-two.result c.requires.two c.index-configs-two.is)
    same (eqb-true c.args.one c.args.two, eq-eqb c.args.one c.args.two) c.least_address.result best
