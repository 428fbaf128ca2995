-- Leaves in a row: the children that close a cycle, up to the next one that doesn't.
use Rattle.std.specs.Prelude.{◌≡◌, List, ◌++◌}
use Rattle.order_search.specs.Trees.{Place, Fill, IsCycle}
use Rattle.order_search.specs.Places.{IsClosedByLast}
use Rattle.order_search.specs.declared.tree.Node.{Node}
use Rattle.order_search.specs.declared.tree.Node.TheVariants.{Branch, Leaf, Unvisited}

-- a node is a leaf with the cycle that the last pair of its place closes
abbrev pub IsLeaf : Place → Node → Type 0
IsLeaf place (Branch address turns) = ⊥
IsLeaf place (Leaf cycle) = IsCycle place cycle × IsClosedByLast place cycle
IsLeaf place Unvisited = ⊥

-- the nodes have grown by leaves, from these open places to those
pub record GrowsLeaves (old new : List Node) (before after : List Place) : Type 0 where
  pub leaves : List Node
  pub grown : new ≡ old ++ leaves
  pub fills : Fill IsLeaf before leaves after
