use Rattle.std.proofs.Common.{◌≡◌, ◌++◌, [], ℕ, List, set, ap, ◌∙◌}
use Rattle.walk_core.specs.steps.NumberLists.{Numbers}
use Rattle.walk_core.specs.steps.NumberLists.Numbers.{Nothing}
use Rattle.walk_core.proofs.ListParts.{copied_without}
use Rattle.walk_core.proofs.number_lists.NumberLists.copy_without.Goals as goal

pub returns : goal.returns
returns c =
    let all : List Numbers = c.self.inside.all.items in
    let whole : c.extend_from_slice.new.self.items ≡ all = c.in_ok-extend_from_slice.ensures.items
    ∙ ap (λ (l : List Numbers). l ++ c.as_slice.result.now) c.in_ok-all.ensures.items ∙ c.as_slice.ensures.value in
    copied_without c.self.inside.long c.in_ok-long.long all c.clear_at.new.all.items c.args.place c.in_ok-long.ensures
    (c.clear_at.ensures ∙ ap (λ (l : List Numbers). set l c.args.place Nothing) whole)
    ∙ ap (λ (ls : List (List ℕ)). set ls c.args.place []) c.self.view_is
