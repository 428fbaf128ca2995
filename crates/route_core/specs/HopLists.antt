-- How hops are kept.
use Rattle.std.specs.Prelude.{ℕ, List, [], ◌∷◌}
use Rattle.route_core.specs.declared.entry.HopList.{HopList}
use Rattle.route_core.specs.declared.entry.HopList.TheVariants.{One, Several}

-- the hops that are kept
abbrev pub listed_hops : HopList → List ℕ
listed_hops (One hop) = hop ∷ []
listed_hops (Several hops) = hops.items
