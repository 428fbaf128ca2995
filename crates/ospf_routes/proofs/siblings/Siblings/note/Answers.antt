use Rattle.std.proofs.Common.{◌++◌, ◌∷◌, ◌∙◌, List, [], ap, refl}
use Rattle.ospf_routes.specs.declared.siblings.Sibling.{Sibling}
use Rattle.ospf_routes.proofs.siblings.Siblings.note.Goals as goal

pub returns : goal.returns
returns c =
    let s : Sibling = record { place = c.args.place; area = c.args.area; backbone = c.in_ok-backbone.backbone } in
    record {
      sibling = s;
      behind = c.in_ok-push.ensures.items ∙ ap (λ (l : List Sibling). l ++ s ∷ []) c.self.view_is;
      place_is = refl;
      area = refl;
      backbone = c.in_ok-backbone.ensures.items;
    }
