use Rattle.std.proofs.Common.{List, ◌∷◌, [], ◌++◌, ap, ◌∙◌}
use Rattle.order_core.specs.Pairs.{Pair}
use Rattle.igp_theory.specs.Changes.{first, second}
use Rattle.igp_theory.specs.Timetables.{change_number}
use Rattle.plan_theory.proofs.NumberLaws.{base_more}
use Rattle.plan_theory.proofs.numbers.change_pairs.Goals as goal

pub loop-router-preserved : goal.loop-router-preserved
loop-router-preserved c =
    c.in_ok-push.ensures.items
    ∙ ap (λ (l : List Pair). l ++ (change_number (first c.loop-router.router), change_number (second c.loop-router.router)) ∷ []) c.loop-router.invariant
    ∙ base_more c.loop-router.router
