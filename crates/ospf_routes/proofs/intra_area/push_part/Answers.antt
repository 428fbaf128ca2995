use Rattle.std.proofs.Common.{◌∷◌, [], List, inl, inr, refl, sym, subst}
use Rattle.std.proofs.lemmas.List.Elements.{Contains-append_left, Contains-push_cases}
use Rattle.std.proofs.lemmas.List.Quantifiers.{Any-push}
use Rattle.ospf_routes.specs.steps.Destinations.{AddsPart, IsPartAt}
use Rattle.ospf_routes.specs.declared.intra_area.AreaOffers.{AreaOffers}
use Rattle.ospf_routes.proofs.intra_area.push_part.Goals as goal

pub returns : goal.returns
returns c =
    let part : AreaOffers = record { area = c.args.area; zone = c.args.zone; offers = c.in_ok-offers.offers } in
    let old : List AreaOffers = c.args.parts.now.items in
    let Is : AreaOffers → Type 0 = IsPartAt c.args.routes.now c.args.area c.args.zone in
    let is : Is part = record { area = refl; zone_is = refl; offers = c.in_ok-offers.ensures } in
    subst (AddsPart Is old) (sym c.in_ok-push.ensures.items) (record {
      each = λ other has. elim (Contains-push_cases old part other has) [
        | inl before ↦ inl before
        | inr same ↦ inr (subst Is same is)
      ];
      kept = λ other has. Contains-append_left old (part ∷ []) other has;
      added = Any-push Is old part is;
    })
