use Rattle.std.proofs.Common.{◌≡◌, ◌++◌, take, map}
use Rattle.std.specs.Prelude.{flat_map}
use Rattle.ios_sections.specs.Processes.{mention_of, mentions_in}
use Rattle.ios_sections.proofs.process.mentions_of.Given as goal

abbrev pub invariant-loop-section : goal.invariant-loop-section
invariant-loop-section l = l.mentions.items ≡ map mention_of l.ospf ++ flat_map mentions_in (take l.section-index l.interfaces)
