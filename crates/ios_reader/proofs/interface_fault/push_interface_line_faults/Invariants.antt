use Rattle.std.proofs.Common.{◌≡◌, ◌++◌, take}
use Rattle.std.specs.Prelude.{option_copied, flat_map}
use Rattle.ios_reader.specs.Faults.{statement_faults}
use Rattle.ios_reader.proofs.interface_fault.push_interface_line_faults.Given as goal

abbrev pub invariant-loop-statement : goal.invariant-loop-statement
invariant-loop-statement l =
    l.faults.items ≡ l.initial.faults.items ++ flat_map (statement_faults (option_copied l.first)) (take l.statement-index l.lines)
