use Rattle.std.proofs.Common.{◌≡◌, take, map}
use Rattle.ios_sections.specs.Processes.{mention_of}
use Rattle.ios_sections.proofs.process.section_mentions.Given as goal

abbrev pub invariant-loop-section : goal.invariant-loop-section
invariant-loop-section l = l.mentions.items ≡ map mention_of (take l.section-index l.ospf)
