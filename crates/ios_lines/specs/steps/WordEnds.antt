-- Where a word ends.
use Rattle.std.specs.Prelude.{ℕ, Bool, nat_le}

-- the byte is a space or a control character below it
abbrev pub is_low : ℕ → Bool
is_low b = nat_le b 32
