use Rattle.std.proofs.Common.{◌≡◌, ◌++◌, take}
use Rattle.std.specs.Prelude.{flat_map}
use Rattle.ios_sections.specs.ProcessFaults.{ospf_statement_faults}
use Rattle.ios_sections.proofs.process.push_ospf_line_faults.Given as goal

abbrev pub invariant-loop-statement : goal.invariant-loop-statement
invariant-loop-statement l =
    l.faults.items ≡ l.initial.faults.items ++ flat_map ospf_statement_faults (take l.statement-index l.lines)
