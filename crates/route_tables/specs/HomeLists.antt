-- Routers that a prefix is connected at: one or two, or those of a vector.
use Rattle.std.specs.Prelude.{ℕ, List, [], ◌∷◌}
use Rattle.route_tables.specs.declared.homes.HomeNumbers.{HomeNumbers}
use Rattle.route_tables.specs.declared.homes.HomeNumbers.TheVariants.{One, Two, Several}

-- the list
pub record HomeList : Type 0 where
  pub items : List ℕ

-- which one is kept so
abbrev pub listed_homes : HomeNumbers → List ℕ
listed_homes (One one) = one ∷ []
listed_homes (Two two) = two
listed_homes (Several all) = all.items
