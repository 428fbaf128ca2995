use Rattle.std.proofs.Common.{◌≡◌, [], replicate, ap, ◌∙◌, refl, arith}
use Rattle.link_trail.specs.Lists.{LinkedLists}
use Rattle.worked_examples.proofs.links.moves_are_taken_back.Goals as goal

pub unlink-requires-clause-linked : goal.unlink-requires-clause-linked
unlink-requires-clause-linked g c =
    let lists : c.reserve.new.self.lists ≡ replicate 2 [] =
    ap (λ (v : LinkedLists). v.lists) c.in_ok-reserve.ensures.ok ∙ ap (λ (v : LinkedLists). v.lists) c.in_ok-widen.ensures.ok
    ∙ ap (λ (v : LinkedLists). v.lists) c.in_ok-links.ensures in
    rw (c.link-3.ensures.lists, c.link-2.ensures.lists, c.link.ensures.lists, lists) (0, omega arith, (1, omega arith, refl))
