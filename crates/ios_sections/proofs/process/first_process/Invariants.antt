use Rattle.std.proofs.Common.{◌≡◌, take}
use Rattle.ios_sections.specs.Processes.{least_mention}
use Rattle.ios_sections.proofs.process.first_process.Given as goal

abbrev pub invariant-loop-mention : goal.invariant-loop-mention
invariant-loop-mention l = l.first ≡ least_mention (take l.mention-index l.mentions)
