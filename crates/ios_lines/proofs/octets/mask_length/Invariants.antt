use Rattle.std.proofs.Common.{◌≡◌, ℕ, ◌-◌, ◌<◌, false, nat_eq}
use Rattle.ios_lines.specs.Words.{mask_with}
use Rattle.ios_lines.proofs.octets.mask_length.Given as goal

abbrev pub invariant-loop-zeros : goal.invariant-loop-zeros
invariant-loop-zeros l = (k : ℕ) → k < l.zeros → nat_eq (mask_with (32 - k)) l.address ≡ false
