use Rattle.std.proofs.Common.{◌≡◌, ◌++◌}
use Rattle.toml.specs.View.{members_view}
use Rattle.design_file.specs.Designs.{interfaces_said}
use Rattle.design_file.proofs.document.interfaces_said.Given as goal

abbrev pub invariant-interfaces : goal.invariant-interfaces
invariant-interfaces l =
    (goal.iterator-interfaces).can_next l.name-iterator ×
    (goal.iterator-interfaces).is_finite l.name-iterator ×
    (l.all.items ++ interfaces_said (members_view l.name-iterator) ≡ interfaces_said (members_view l.table.entries))
