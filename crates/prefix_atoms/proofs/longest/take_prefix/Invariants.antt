use Rattle.std.proofs.Common.{◌≡◌, ℕ, List, length}
use Rattle.net_addr.specs.Addresses.{Block}
use Rattle.prefix_atoms.specs.steps.Longest.{AreLongestKept}
use Rattle.prefix_atoms.proofs.LongestSteps.{Painted}
use Rattle.prefix_atoms.proofs.longest.take_prefix.Given as goal

abbrev pub invariant-loop-i : goal.invariant-loop-i
invariant-loop-i l = record {
  count : length l.found.items ≡ length l.addresses;
  painted : (ps : List Block) (numbers : ℕ → ℕ) → AreLongestKept ps numbers l.addresses l.initial.found.items → numbers (length ps) ≡ l.fn.number
      → Painted (record { prefixes = ps; numbers = numbers; next = l.fn.prefix; addresses = l.addresses }) l.found.items l.i;
}
