use Rattle.std.proofs.Common.{◌≡◌, ◌++◌}
use Rattle.toml.specs.View.{members_view}
use Rattle.design_file.specs.steps.FaultLists.{table_faults}
use Rattle.design_file.proofs.table_faults.+table_faults.Given as goal

abbrev pub invariant-add_of_table-entries : goal.invariant-add_of_table-entries
invariant-add_of_table-entries l =
    (goal.iterator-add_of_table-entries).can_next l.word-iterator ×
    (goal.iterator-add_of_table-entries).is_finite l.word-iterator ×
    (l.faults.items ++ table_faults (members_view l.word-iterator) l.place l.path ≡ l.initial.faults.items ++ table_faults
    (members_view l.table.entries) l.place l.path)
