use Rattle.std.proofs.Common.{◌≡◌, take}
use Rattle.std.specs.Prelude.{flat_map}
use Rattle.ios_sections.specs.ProcessFaults.{process_faults}
use Rattle.ios_sections.proofs.process.second_processes.Given as goal

abbrev pub invariant-loop-mention : goal.invariant-loop-mention
invariant-loop-mention l = l.faults.items ≡ flat_map (process_faults l.process) (take l.mention-index l.mentions)
