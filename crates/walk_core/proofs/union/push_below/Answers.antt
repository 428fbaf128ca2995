use Rattle.std.proofs.Common.{◌<◌, ℕ, List, Contains, subst}
use Rattle.walk_core.specs.steps.Adding.{AddsNumbers}
use Rattle.walk_core.proofs.union.push_below.Goals as goal

pub returns-clause-ok : goal.returns-clause-ok
returns-clause-ok c =
    subst (λ (l : List ℕ). AddsNumbers (λ h. (h < c.args.count) × Contains c.args.list.now h) l c.add_below.new.numbers.items) c.reserve.ensures.items
    c.add_below.ensures.added
