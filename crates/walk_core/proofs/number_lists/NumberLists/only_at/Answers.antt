use Rattle.std.proofs.lemmas.Grind.{common_steps}
use Rattle.std.proofs.Common.{◌≡◌, ℕ, List, [], arith, get_or, subst}
use Rattle.walk_core.specs.Stretches.{IsOnlyHop}
use Rattle.walk_core.specs.steps.NumberLists.{list_of}
use Rattle.walk_core.proofs.number_lists.NumberLists.only_at.Goals as goal

pub returns-in-Some : goal.returns-in-Some
returns-in-Some c =
    let here : list_of c.self.inside.long c.in-Some.numbers.now ≡ get_or c.args.self.now c.args.place [] =
    grind (arith, common_steps) in
    subst (λ (list : List ℕ). IsOnlyHop list c.only.result) here c.only.ensures
