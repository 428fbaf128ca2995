use Rattle.std.proofs.Common.{◌≡◌}
use Rattle.std.specs.Prelude.{flat_map, option_copied}
use Rattle.ios_sections.specs.Processes.{lines_of_tag}
use Rattle.ios_sections.proofs.isis_process.isis_lines.Given as goal

abbrev pub invariant-loop-section : goal.invariant-loop-section
invariant-loop-section l = l.lines.items ≡ flat_map (lines_of_tag (option_copied l.tag)) l.yielded
