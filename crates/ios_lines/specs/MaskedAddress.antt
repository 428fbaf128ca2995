-- An address with the length of its mask.
use Rattle.std.specs.Prelude.{ℕ}

-- the address of an interface, and how many first bits of its mask are ones
pub record MaskedAddress : Type 0 where
  pub address : ℕ
  pub len : ℕ
