use Rattle.std.proofs.Common.{◌≡◌, ◌++◌, [], ℕ, List, replicate, ap, ◌∙◌}
use Rattle.walk_core.specs.steps.NumberLists.{Numbers}
use Rattle.walk_core.specs.steps.NumberLists.Numbers.{Nothing}
use Rattle.walk_core.proofs.ListParts.{copied_behind}
use Rattle.walk_core.proofs.number_lists.NumberLists.copy_behind.Goals as goal

pub returns : goal.returns
returns c =
    let n : ℕ = c.args.first in
    let all : List Numbers = c.self.inside.all.items in
    let whole : c.extend_from_slice.new.self.items ≡ replicate n Nothing ++ all = c.in_ok-extend_from_slice.ensures.items
    ∙ ap (λ (l : List Numbers). l ++ c.as_slice.result.now)
    (c.in_ok-all.ensures.items_if_clones_equal (λ y is. is) ∙ ap (λ (none : Numbers). replicate n none) c.nothing.ensures)
    ∙ ap (λ (l : List Numbers). replicate n Nothing ++ l) c.as_slice.ensures.value in
    copied_behind c.self.inside.long c.in_ok-long.long all c.extend_from_slice.new.self.items n c.in_ok-long.ensures whole
    ∙ ap (λ (ls : List (List ℕ)). replicate n [] ++ ls) c.self.view_is
