use Rattle.std.proofs.Common.{◌≡◌}
use Rattle.std.specs.Prelude.{flat_map}
use Rattle.ios_sections.specs.Processes.{lines_of_process}
use Rattle.ios_sections.proofs.process.ospf_lines.Given as goal

abbrev pub invariant-loop-section : goal.invariant-loop-section
invariant-loop-section l = l.lines.items ≡ flat_map (lines_of_process l.process) l.yielded
