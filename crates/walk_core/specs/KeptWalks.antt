-- What is known of the walks from a root, as it is kept.
use Rattle.std.specs.Prelude.{ℕ, ◌∷◌, ◌++◌, List, [], Option, Some, None, replicate}
use Rattle.walk_core.specs.declared.stretch.Extent.{Extent}
use Rattle.walk_core.specs.declared.stretch.Extent.TheVariants.{Alone, Along}
use Rattle.walk_core.specs.declared.walks.KeptWalks.{KeptWalks}
use Rattle.walk_core.specs.declared.walks.KeptWalks.TheVariants.{Lone, Far}
use Rattle.walk_core.specs.Reach.{Reach}
use Rattle.walk_core.specs.Stretches.{reach_along}

-- the distances from a vertex that reaches itself alone: it alone has one
abbrev pub lone_row : ℕ → List (Option ℕ)
lone_row root = replicate root None ++ Some 0 ∷ []

-- the walks that are known
abbrev pub reach_known : KeptWalks → Reach
reach_known (Lone root) = record { distances = lone_row root; hops = [] }
reach_known (Far found) = found.value

-- the walks that an extent tells of
abbrev pub reach_over : Extent → Reach
reach_over (Alone root) = record { distances = lone_row root; hops = [] }
reach_over (Along stretch) = reach_along stretch
