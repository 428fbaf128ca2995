use Rattle.std.proofs.Common.{◌≡◌, ℕ, [], ◌∷◌, length, refl, arith, ap, ◌∙◌}
use Rattle.loop_finder.proofs.PieceLaws.{IsMadeOf-more, made_whole}
use Rattle.loop_finder.proofs.pieces.add_whole.Goals as goal

pub returns-clause-made : goal.returns-clause-made
returns-clause-made c =
    let many : c.in-Ok.place ≡ length c.args.all.now.items =
    omega (arith, c.in-Ok.ensures.1, c.len.ensures, c.args.all.now.ok.0) in
    made_whole c.args.all.now.items c.push.new.self.items c.in_ok-piece.piece c.args.part.now c.in_ok-places.places c.in_ok-push.ensures.items
    (c.in_ok-places.ensures ∙ ap (λ (n : ℕ). n ∷ []) many) (λ u within. c.in_ok-piece.ensures.each u within refl)

pub returns-clause-kept : goal.returns-clause-kept
returns-clause-kept c other others made =
    IsMadeOf-more c.args.all.now.items c.push.new.self.items c.in_ok-piece.piece other others c.in_ok-push.ensures.items made
