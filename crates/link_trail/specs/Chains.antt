-- How the nodes' neighbors and the lists' ends show the lists.
use Rattle.std.specs.Prelude.{◌≡◌, ◌≢◌, ℕ, ◌<◌, List, [], ◌∷◌, length, Option, Some, None, slice_index_or}
use Rattle.link_trail.specs.declared.chain.Node.{Node}
use Rattle.link_trail.specs.declared.chain.Ends.{Ends}
use Rattle.link_trail.specs.Lists.{IsFree, first_node, first_or, list_at}

-- a node that stands in no list
abbrev pub free_node : Node
free_node = record { list = None; previous = None; next = None }

-- the ends of a list without nodes
abbrev pub no_ends : Ends
no_ends = record { first = None; last = None }

-- what is kept of the node of this number
abbrev pub node_at : List Node → ℕ → Node
node_at nodes node = slice_index_or nodes node free_node

-- the ends of the list of this number
abbrev pub ends_at : List Ends → ℕ → Ends
ends_at ends list = slice_index_or ends list no_ends

-- the last node of a list that comes after `previous`
abbrev pub last_or : Option ℕ → List ℕ → Option ℕ
last_or previous [] = previous
last_or previous (node ∷ nodes) = last_or (Some node) nodes

-- the last node of a list
abbrev pub last_node : List ℕ → Option ℕ
last_node nodes = last_or None nodes

-- the node is none of these
abbrev pub IsNoneOf : ℕ → List ℕ → Type 0
IsNoneOf node [] = Unit {0}
IsNoneOf node (other ∷ others) = (node ≢ other) × IsNoneOf node others

-- no node comes twice
abbrev pub IsDistinct : List ℕ → Type 0
IsDistinct [] = Unit {0}
IsDistinct (node ∷ nodes) = IsNoneOf node nodes × IsDistinct nodes

-- a stretch of a list: the nodes before and after it, none where the list begins or ends with it
pub record Stretch : Type 0 where
  pub list : ℕ
  pub previous : Option ℕ
  pub next : Option ℕ

-- the stretch of a list between two neighbors
abbrev pub stretch_between : ℕ → Option ℕ → Option ℕ → Stretch
stretch_between list previous next = record { list = list; previous = previous; next = next }

-- these nodes make up the stretch, one after another
abbrev pub AreChained : List Node → Stretch → List ℕ → Type 0
AreChained nodes stretch [] = Unit {0}
AreChained nodes stretch (x ∷ xs) =
    (node_at nodes x ≡ record { list = Some stretch.list; previous = stretch.previous; next = first_or xs stretch.next })
    × AreChained nodes (stretch_between stretch.list (Some x) stretch.next) xs

-- the nodes of a list, from its first to its last, are these
pub record ShowsList (nodes : List Node) (list : ℕ) (ends : Ends) (xs : List ℕ) : Type 0 where
  pub chained : AreChained nodes (stretch_between list None None) xs
  pub distinct : IsDistinct xs
  pub first : ends.first ≡ first_node xs
  pub last : ends.last ≡ last_node xs

-- nodes and ends show these lists, and a node in no list has no neighbors
pub record ShowsLists (nodes : List Node) (ends : List Ends) (lists : List (List ℕ)) : Type 0 where
  pub count : length ends ≡ length lists
  pub each : (list : ℕ) → list < length lists → ShowsList nodes list (ends_at ends list) (list_at lists list)
  pub free : (node : ℕ) → IsFree lists node → node_at nodes node ≡ free_node
