use Rattle.std.proofs.Common.{All, take}
use Rattle.net_addr.specs.Addresses.{IsBlock}
use Rattle.prefix_atoms.specs.steps.Longest.{AreLongestKept}
use Rattle.prefix_atoms.proofs.longest.longest_in_prefixes.Given as goal

abbrev pub invariant-loop-place : goal.invariant-loop-place
invariant-loop-place l = record {
  longest : AreLongestKept (take l.place l.prefixes) (λ place. place) l.addresses l.found.items;
  blocks : All IsBlock (take l.place l.prefixes);
}
