-- Trees of places, seen as the list of their nodes, each followed by its children. Nothing here speaks of a search.
use Rattle.std.specs.Prelude.{◌≡◌, ◌≢◌, ℕ, ◌+◌, ◌≤◌, List, [], ◌∷◌, ◌++◌, length, map, All, AllPairs, Contains}
use Rattle.order_core.specs.Pairs.{Pair, IsPath}
use Rattle.order_core.specs.Turns.{HasBothTags, old_routers, new_routers, child_pairs}
use Rattle.order_core.specs.declared.turn.Turn.{Turn}
use Rattle.order_search.specs.declared.tree.Node.{Node}
use Rattle.order_search.specs.declared.tree.Node.TheVariants.{Branch, Leaf, Unvisited}

-- a place is told by the pairs that are assumed there, in the order in which they were assumed: first those of a
-- base, which are assumed everywhere, and then one for each branch above
abbrev pub Place : Type 0
Place = List Pair

-- which address and turns may be branched on
abbrev pub Real : Type 1
Real = ℕ → List Turn → Type 0

-- what is said of each node at its place
abbrev pub NodeFact : Type 1
NodeFact = Place → Node → Type 0

-- the places of a node's children: each assumes one pair besides
abbrev pub places_below : Place → Node → List Place
places_below pairs (Branch address turns) = map (λ (p : Pair). pairs ++ p ∷ []) (child_pairs turns)
places_below pairs (Leaf cycle) = []
places_below pairs Unvisited = []

-- the nodes fill these places from the first on, each followed by its children; what P says holds of
-- each node at its place; the places that are open at the end are the last argument
abbrev pub Fill : NodeFact → List Place → List Node → List Place → Type 0
Fill P places [] left = places ≡ left
Fill P [] (node ∷ nodes) left = ⊥
Fill P (place ∷ places) (node ∷ nodes) left = P place node × Fill P (places_below place node ++ places) nodes left

-- a cycle of at least two distinct numbers: each of them is assumed before the next, and the last before the first
pub record IsCycle (pairs : Place) (cycle : List ℕ) : Type 0 where
  pub first : ℕ
  pub others : List ℕ
  pub begins : cycle ≡ first ∷ others
  pub some : 1 ≤ length others
  pub distinct : AllPairs (λ u v. u ≢ v) cycle
  pub round : IsPath pairs first (others ++ first ∷ []) first

-- what a node of a tree is at its place: a branch names something real with an Old and a New turn, and a
-- leaf names a cycle of pairs that are assumed there
abbrev pub IsTreeNode : Real → Place → Node → Type 0
IsTreeNode real pairs (Branch address turns) = real address turns × HasBothTags turns
IsTreeNode real pairs (Leaf cycle) = IsCycle pairs cycle
IsTreeNode real pairs Unvisited = Unit {0}

-- a node is visited
abbrev pub IsVisited : Node → Type 0
IsVisited (Branch address turns) = Unit {0}
IsVisited (Leaf cycle) = Unit {0}
IsVisited Unvisited = ⊥

-- the nodes are a tree: they fill the place that assumes the base alone, and no place is open
abbrev pub IsTree : NodeFact → List Pair → List Node → Type 0
IsTree P base nodes = Fill P (base ∷ []) nodes []

-- a tree is closed where it has no unvisited place
pub record IsClosedTree (P : NodeFact) (base : List Pair) (nodes : List Node) : Type 0 where
  pub tree : IsTree P base nodes
  pub visited : All IsVisited nodes

-- a node is a branch with one child, or no branch
abbrev pub HasOneChild : Node → Type 0
HasOneChild (Branch address turns) = length (child_pairs turns) ≡ 1
HasOneChild (Leaf cycle) = Unit {0}
HasOneChild Unvisited = Unit {0}

-- how many branches a node is
abbrev pub branches_at : Node → ℕ
branches_at (Branch address turns) = 1
branches_at (Leaf cycle) = 0
branches_at Unvisited = 0

-- how many of the nodes are branches
abbrev pub branch_count : List Node → ℕ
branch_count [] = 0
branch_count (node ∷ nodes) = branches_at node + branch_count nodes

-- a branch of the nodes has an Old turn of the pair's first number and a New turn of its second
pub record IsOfBranch (nodes : List Node) (pair : Pair) : Type 0 where
  pub address : ℕ
  pub turns : List Turn
  pub branch : Contains nodes (Branch address turns)
  pub old : Contains (old_routers turns) pair.0
  pub new : Contains (new_routers turns) pair.1
