-- Places and the rankings that are asked there: layered lists, earned branches, the cycle of a leaf, the nodes that the
-- search makes, the first place that isn't visited.
use Rattle.std.specs.Prelude.{◌≡◌, ℕ, suc, List, ◌∷◌, [], ◌++◌, length, replicate, All}
use Rattle.order_core.specs.Pairs.{AreBelow, HasNoCycle}
use Rattle.precedence_set.specs.Layers.{AreLayers}
use Rattle.precedence_set.specs.LeastCycle.{IsLeastCycle}
use Rattle.order_search.specs.Trees.{Place, Fill, IsTreeNode, IsVisited, branch_count}
use Rattle.order_search.specs.Meanings.{Meaning, Picked}
use Rattle.order_search.specs.declared.tree.Node.{Node}
use Rattle.order_search.specs.declared.tree.Node.TheVariants.{Branch, Leaf, Unvisited}

-- the layered list of a place: its pairs are of numbers below n and have no cycle, and each number's rank is its layer
pub record IsLayered (n : ℕ) (pairs : Place) (ranks : List ℕ) : Type 0 where
  pub below : AreBelow n pairs
  pub acyclic : HasNoCycle pairs
  pub layers : AreLayers n pairs ranks

-- something is picked for the layered list of the place
pub record IsPickedAt (IsPicked : List ℕ → Type 0) (n : ℕ) (pairs : Place) : Type 0 where
  pub ranks : List ℕ
  pub layered : IsLayered n pairs ranks
  pub pick : IsPicked ranks

-- a branch is earned where its address and turns are picked for the layered list of its place
abbrev pub IsEarned : Picked → ℕ → Place → Node → Type 0
IsEarned picked n pairs (Branch address turns) = IsPickedAt (λ (ranks : List ℕ). picked ranks address turns) n pairs
IsEarned picked n pairs (Leaf cycle) = Unit {0}
IsEarned picked n pairs Unvisited = Unit {0}

-- the cycle is the one of lowest numbers that the last of the pairs closes
pub record IsClosedByLast (pairs : Place) (cycle : List ℕ) : Type 0 where
  pub above : Place
  pub before : ℕ
  pub after : ℕ
  pub last : pairs ≡ above ++ (before, after) ∷ []
  pub least : IsLeastCycle above before after cycle

-- a leaf names the cycle that its last pair closes
abbrev pub NamesLeastCycle : Place → Node → Type 0
NamesLeastCycle pairs (Branch address turns) = Unit {0}
NamesLeastCycle pairs (Leaf cycle) = IsClosedByLast pairs cycle
NamesLeastCycle pairs Unvisited = Unit {0}

-- a node that the search makes: a node of a tree, earned if it is a branch, with the least cycle if it is a leaf
pub record IsFoundNode (m : Meaning) (place : Place) (node : Node) : Type 0 where
  pub is_node : IsTreeNode m.real place node
  pub earned : IsEarned m.picked m.size place node
  pub least_cycle : NamesLeastCycle place node

-- visited nodes of a tree up to an open place, and the places that are open after it
pub record StandsAt (m : Meaning) (place : Place) (before : List Node) (later : List Place) : Type 0 where
  pub visited : All IsVisited before
  pub fills : Fill (IsFoundNode m) (m.base ∷ []) before (place ∷ later)

-- the nodes lead to a ranking at a place: they are the nodes of a tree up to its first unvisited place, that place
-- included, and the ranking is its layered list
pub record LeadsToRanking (m : Meaning) (place : Place) (ranks : List ℕ) (nodes : List Node) : Type 0 where
  pub before : List Node
  pub later : List Place
  pub ends : nodes ≡ before ++ Unvisited ∷ []
  pub stands : StandsAt m place before later
  pub layered : IsLayered m.size place ranks

-- a tree is stopped at a budget: it has exactly so many branches; its first unvisited place has a layered list that
-- isn't good; after that place there are only unvisited places
pub record IsStoppedAt (m : Meaning) (budget : ℕ) (nodes : List Node) : Type 0 where
  pub before : List Node
  pub place : Place
  pub later : List Place
  pub ranks : List ℕ
  pub ends : nodes ≡ before ++ replicate (suc (length later)) Unvisited
  pub stands : StandsAt m place before later
  pub layered : IsLayered m.size place ranks
  pub bad : ¬ m.good ranks
  pub spent : branch_count nodes ≡ budget
