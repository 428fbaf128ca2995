-- A safe wave list that is asked about: what contracts see of it.
use Rattle.std.specs.Prelude.{ℕ, List}
use Rattle.order_core.specs.declared.turn.Turn.{Turn}
use Rattle.rib_mix.specs.Mixture.{Mixture}

-- what the migration is over, the ranks of the routers or of the single changes, and the ring of the latest loop
pub record AskedList (O N : Type 0) : Type 0 where
  pub mixture : Mixture O N
  pub ranks : List ℕ
  pub ring : List Turn
