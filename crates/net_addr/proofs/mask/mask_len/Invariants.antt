use Rattle.std.proofs.Common.{ℕ, ◌<◌, ◌≤◌}
use Rattle.net_addr.specs.AddressWords.{IsMask}
use Rattle.net_addr.proofs.mask.mask_len.Given as goal

abbrev pub invariant-loop-len : goal.invariant-loop-len
invariant-loop-len l = (k : ℕ) → 1 ≤ k → k < l.len → ¬ (IsMask l.address k)
