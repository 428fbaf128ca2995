use Rattle.std.proofs.Common.{◌∙◌, List, arith, refl, subst, sym}
use Rattle.std.specs.List.{Contains}
use Rattle.std.proofs.lemmas.List.Elements.{Contains-get_or}
use Rattle.walk_core.specs.declared.offers.Offer.{Offer}
use Rattle.route_tables.specs.AlikeOffers.{AreAlikeOffers}
use Rattle.ospf_routes.specs.declared.siblings.Sibling.{Sibling}
use Rattle.ospf_routes.proofs.siblings.Siblings.alike.Goals as goal

pub returns-then-are_alike : goal.returns-then-are_alike
returns-then-are_alike c =
    let known : List Sibling = c.deref.result.now in
    let s : Sibling = c.in_ok-known.known.now in
    let found = c.in_ok-known.ensures.lookup.3 in
    record {
      sibling = s;
      among = subst (λ (l : List Sibling). Contains l s) (c.deref.ensures.value ∙ c.self.view_is)
          (subst (Contains known) (sym (found.1 s)) (Contains-get_or known c.in_ok-index.index s found.0));
      place_is = refl;
      area = omega (arith, c.if-known-area.false);
      alike = subst (λ (l : List Offer). AreAlikeOffers l c.args.backbone.now) c.as_slice.ensures.value (c.if-are_alike.ensures.0
          refl);
    }
