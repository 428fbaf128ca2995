use Rattle.std.proofs.Common.{◌≡◌, false, map, fold}
use Rattle.ios_sections.specs.Gathering.{with_section, nothing_gathered}
use Rattle.ios_sections.proofs.gather.gather.Given as goal

abbrev pub invariant-loop-section : goal.invariant-loop-section
invariant-loop-section l = record {
  gathered : l.gathering ≡ fold with_section nothing_gathered l.yielded;
  index : l.few ≡ false → l.names ≡ map (λ s. s.name) l.gathering.interfaces;
}
