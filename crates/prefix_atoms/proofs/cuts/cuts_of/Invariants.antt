use Rattle.std.proofs.Common.{ℕ, ◌<◌, ◌^◌, Contains, All, take}
use Rattle.net_addr.specs.Addresses.{Block, IsBlock}
use Rattle.net_addr.specs.Boundaries.{IsBoundary}
use Rattle.prefix_atoms.proofs.cuts.cuts_of.Given as goal

abbrev pub invariant-loop-prefix : goal.invariant-loop-prefix
invariant-loop-prefix l = record {
  first : Contains l.cuts.items 0;
  boundaries : (p : Block) (c : ℕ) → Contains (take l.prefix-index l.prefixes) p → IsBoundary p c → c < 2 ^ 32 → Contains l.cuts.items c;
  blocks : All IsBlock (take l.prefix-index l.prefixes);
}
