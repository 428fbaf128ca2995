use Rattle.std.proofs.Common.{◌≡◌, take}
use Rattle.std.specs.Prelude.{flat_map, option_copied}
use Rattle.ios_sections.specs.ProcessFaults.{tag_faults_of}
use Rattle.ios_sections.proofs.isis_process.tag_faults.Given as goal

abbrev pub invariant-loop-section : goal.invariant-loop-section
invariant-loop-section l = l.faults.items ≡ flat_map (tag_faults_of (option_copied l.first)) (take l.section-index l.sections)
