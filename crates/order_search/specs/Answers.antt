-- What the search may answer.
use Rattle.std.specs.Prelude.{ℕ, suc, ◌*◌, ◌-◌, ◌/◌, ◌<◌, ◌≤◌, ◌⊎◌, List, length, slice_index, All, Contains}
use Rattle.order_core.specs.Pairs.{Pair}
use Rattle.order_core.specs.Rankings.{IsRanking, KeepsPairs, wave_count}
use Rattle.precedence_set.specs.Layers.{IsChain}
use Rattle.order_search.specs.Trees.{IsClosedTree, HasOneChild, branch_count, IsOfBranch}
use Rattle.order_search.specs.Meanings.{Meaning}
use Rattle.order_search.specs.Places.{IsFoundNode, LeadsToRanking, IsStoppedAt}
use Rattle.order_search.specs.declared.tree.Node.{Node}
use Rattle.order_search.specs.declared.found.Found.{Found}
use Rattle.order_search.specs.declared.found.Found.TheVariants.{Waves, Refuted, Spent}

-- what is found where a ranking is good: it, the pairs of its place with their chain, and the trail that leads there
pub record FoundWaves : Type 0 where
  pub ranks : List ℕ
  pub pairs : List Pair
  pub chain : List ℕ
  pub trail : List Node

-- it, of its parts in this order
abbrev pub found_waves : List ℕ → List Pair → List ℕ → List Node → FoundWaves
found_waves ranks pairs chain trail = record { ranks = ranks; pairs = pairs; chain = chain; trail = trail }

-- a good ranking, with a trail of at most `budget` branches that leads to it at the place of these pairs: no ranking
-- that keeps them has fewer waves, which their chain shows, and each of them is of the base or turned in the trail
pub record AreFoundWaves (m : Meaning) (budget : ℕ) (found : FoundWaves) : Type 0 where
  pub is_good : m.good found.ranks
  pub leads : LeadsToRanking m found.pairs found.ranks found.trail
  pub within : branch_count found.trail ≤ budget
  pub chained : IsChain found.pairs found.ranks found.chain
  pub fewest : (others : List ℕ) → IsRanking m.size others → KeepsPairs others found.pairs → wave_count found.ranks ≤ wave_count others
  pub neighbors : (k : ℕ) → suc k < length found.chain → Contains found.pairs (slice_index found.chain k, slice_index found.chain (suc k))
  pub turned : (pair : Pair) → Contains found.pairs pair → Contains m.base pair ⊎ IsOfBranch found.trail pair

-- a closed tree of at most `budget` branches
pub record IsRefutation (m : Meaning) (budget : ℕ) (tree : List Node) : Type 0 where
  pub closed : IsClosedTree (IsFoundNode m) m.base tree
  pub within : branch_count tree ≤ budget

-- a tree stopped at the budget; where every branch has one child, the budget is at most n(n-1)/2
pub record IsSpent (m : Meaning) (budget : ℕ) (tree : List Node) : Type 0 where
  pub stopped : IsStoppedAt m budget tree
  pub path : All HasOneChild tree → budget ≤ m.size * (m.size - 1) / 2

-- what was found is what it is said to be
abbrev pub IsFound : Meaning → ℕ → Found → Type 0
IsFound m budget (Waves waves pairs chain trail) = AreFoundWaves m budget (found_waves waves pairs chain trail)
IsFound m budget (Refuted tree) = IsRefutation m budget tree
IsFound m budget (Spent tree) = IsSpent m budget tree
