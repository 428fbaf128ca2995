use Rattle.std.proofs.Common.{◌≡◌, ℕ, List, length, arith, ◌∙◌, subst}
use Rattle.std.proofs.lemmas.List.{get_or_default}
use Rattle.loop_finder.specs.Parts.{ClassPart}
use Rattle.loop_finder.specs.Pieces.{AreMadeOf, IsMadeOf}
use Rattle.loop_finder.specs.Watches.{IsWatch}
use Rattle.loop_finder.proofs.PieceLaws.{AreMadeOf-more}
use Rattle.loop_finder.proofs.pieces.pieces_of.Goals as goal

pub loop-place-preserved : goal.loop-place-preserved
loop-place-preserved c =
    let cut = c.in_ok-places.ensures in
    record {
      all = cut.all;
      made = AreMadeOf-more c.cut.new.all.items c.args.parts.now c.loop-place.place c.loop-place.made.items c.push.new.self.items c.in_ok-places.places
          c.in_ok-push.ensures.items
          (record {
            many = c.loop-place.invariant.made.many;
            each = λ p less d. cut.kept _ _ (c.loop-place.invariant.made.each p less d);
          })
          (λ d. subst (λ (part : ClassPart). IsMadeOf c.cut.new.all.items part c.in_ok-places.places)
          (c.index-parts-place.is ∙ get_or_default c.args.parts.now c.loop-place.place c.index-parts-place.result d c.loop-place-test.true) cut.made);
    }

pub returns : goal.returns
returns c = record {
  rows = c.loop-place.invariant.all;
  made = subst (λ (n : ℕ). AreMadeOf c.loop-place.all.items c.args.parts.now n c.loop-place.made.items)
      (let e : c.loop-place.place ≡ length c.args.parts.now = omega (arith, c.loop-place-test.false, c.loop-place.auto.place-end) in e)
      c.loop-place.invariant.made;
  watch = subst (λ (xs : List ClassPart). IsWatch xs c.args.routers c.in_ok-watch.watch.items) c.as_slice.ensures.value c.in_ok-watch.ensures;
}
