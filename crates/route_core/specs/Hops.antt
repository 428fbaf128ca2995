-- The list of an entry's hops.
use Rattle.std.specs.Prelude.{ℕ, ◌↔◌, List, Contains}
use Rattle.std.specs.List.Sorted.{IsStrictlyIncreasing}

-- the hops are the ascending list, without repeats, of exactly the routers that are hops
pub record AreHops (hop : ℕ → Type 0) (hops : List ℕ) : Type 0 where
  pub ascending : IsStrictlyIncreasing hops
  pub exact : (h : ℕ) → Contains hops h ↔ hop h
