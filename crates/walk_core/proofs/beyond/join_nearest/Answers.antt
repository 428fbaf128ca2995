use Rattle.std.proofs.Common.{◌≡◌, ◌++◌, ◌∷◌, [], ℕ, List, Some, ap, refl, ◌∙◌, arith}
use Rattle.walk_core.specs.steps.SegmentWalks.{as_near, farther, first, nearer}
use Rattle.walk_core.proofs.beyond.join_nearest.Goals as goal
use Rattle.walk_core.proofs.beyond.join_nearest.Goals.{in-Some-nearest+else-nearest-distance+else-nearest-distance-2, in_default-nearest}

pub returns-then-nearest-distance : goal.returns-then-nearest-distance
returns-then-nearest-distance c = farther c.in-Some-nearest.nearest c.in-Some.distance c.in-Some.is c.in-Some-nearest.is c.if-nearest-distance.true refl

pub returns-then-nearest-distance-2 : goal.returns-then-nearest-distance-2
returns-then-nearest-distance-2 c =
    as_near c.in-Some.distance c.in-Some.is (c.in-Some-nearest.is ∙ ap (λ (n : ℕ). Some n) c.if-nearest-distance-2.true) c.in_ok-push.ensures.items

pub returns : goal.returns
returns c =
    let alone : c.push-2.new.self.items ≡ c.args.vertex ∷ [] =
    c.in_ok-push-2.ensures.items ∙ ap (λ (l : List ℕ). l ++ c.args.vertex ∷ []) c.clear.ensures.items in
    elim c.match-nearest.branch [
      | in-Some-nearest+else-nearest-distance+else-nearest-distance-2 w ↦
          nearer w.in-Some-nearest.nearest c.in-Some.distance c.in-Some.is w.in-Some-nearest.is
          (omega (arith, w.if-nearest-distance.false, w.if-nearest-distance-2.false)) alone
      | in_default-nearest w ↦ first c.in-Some.distance c.in-Some.is w.in_default-nearest.is alone
    ]
