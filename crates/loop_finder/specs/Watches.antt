-- Which parts a change of a router concerns.
use Rattle.std.specs.Prelude.{◌≡◌, ℕ, ◌<◌, ◌⊎◌, true, List, [], length, slice_index_or, All, AllPairs, Contains}
use Rattle.igp_theory.specs.declared.phase.Phase.{Phase}
use Rattle.loop_finder.specs.Parts.{ClassPart, part_hops}

-- a router has no hops in a part of which all routers move
pub record IsIdle (part : ClassPart) (u : ℕ) : Type 0 where
  pub moves : part.moves ≡ true
  pub bare : (phase : Phase) (h : ℕ) → ¬ Contains (part_hops part u phase) h

-- some of the first n places of parts, ascending, with all those at which a router isn't idle
pub record AreFirstPlaces (parts : List ClassPart) (u n : ℕ) (places : List ℕ) : Type 0 where
  pub ascending : AllPairs (λ p q. p < q) places
  pub below : All (λ p. p < n) places
  pub whole : (p : ℕ) (d : ClassPart) → p < n → Contains places p ⊎ IsIdle (slice_index_or parts p d) u

-- those of all parts
abbrev pub ArePlacesOf : List ClassPart → ℕ → List ℕ → Type 0
ArePlacesOf parts u places = AreFirstPlaces parts u (length parts) places

-- the places for each of n routers
pub record IsWatch (parts : List ClassPart) (n : ℕ) (watch : List (List ℕ)) : Type 0 where
  pub many : length watch ≡ n
  pub each : (u : ℕ) → u < n → ArePlacesOf parts u (slice_index_or watch u [])
