-- Bytes that a test keeps, with the room for them.
use Rattle.std.specs.Prelude.{ℕ, List}

-- bytes that are kept, and how many there is room for in all
pub record BytesWithRoom : Type 0 where
  pub bytes : List ℕ
  pub room : ℕ
