use Rattle.route_core.proofs.RowLaws.{AreOwnParts}
use Rattle.route_core.proofs.table.Table.from_entries.Given as goal

abbrev pub invariant-loop-dest : goal.invariant-loop-dest
invariant-loop-dest l =
    AreOwnParts (record { prefixes = l.prefixes.items; kinds = l.kinds.items; numbers = l.numbers.items; entries = l.own.items }) l.yielded
