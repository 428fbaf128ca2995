-- What contracts see of the assumed pairs.
use Rattle.std.specs.Prelude.{ℕ, List}
use Rattle.order_core.specs.Pairs.{Pair}

-- the count of routers, the assumed pairs in order, the cycle of the latest pair that closed one,
-- and for how many more pairs there is room
pub record Assumed : Type 0 where
  pub routers : ℕ
  pub pairs : List Pair
  pub cycle : List ℕ
  pub spare : ℕ
