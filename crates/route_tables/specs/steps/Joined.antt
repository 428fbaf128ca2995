-- Routers on a common segment.
use Rattle.std.specs.Prelude.{◌≡◌, ℕ, List, Any}
use Rattle.walk_core.specs.declared.segment.Port.{Port}

-- both routers have ports of the segment
pub record JoinsRouters (u v : ℕ) (segment : List Port) : Type 0 where
  pub one : Any (λ (port : Port). port.vertex ≡ u) segment
  pub other : Any (λ (port : Port). port.vertex ≡ v) segment
