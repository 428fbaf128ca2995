-- Lists of numbered nodes: what contracts see of `Links`, and what each call does to it.
use Rattle.std.specs.Prelude.{◌≡◌, ◌==◌, ℕ, ◌<◌, not, List, [], ◌∷◌, ◌++◌, length, map, filter, Option, Some, None, slice_index_or}
use Rattle.std.specs.Prelude.{slice_set, Contains}

-- the count of nodes, the lists now, for each standing move in order the lists before it, and the
-- count of moves for which there is room
pub record LinkedLists : Type 0 where
  pub nodes : ℕ
  pub lists : List (List ℕ)
  pub trail : List (List (List ℕ))
  pub spare : ℕ

-- the list of this number
abbrev pub list_at : List (List ℕ) → ℕ → List ℕ
list_at lists list = slice_index_or lists list []

-- the node stands in one of the lists
abbrev pub IsLinked : List (List ℕ) → ℕ → Type 0
IsLinked lists node = (list : ℕ) × (list < length lists) × Contains (list_at lists list) node

-- the node stands in none of the lists
abbrev pub IsFree : List (List ℕ) → ℕ → Type 0
IsFree lists node = (list : ℕ) → list < length lists → Contains (list_at lists list) node → ⊥

-- each node stands in one list at most, and once there
pub record IsApart (lists : List (List ℕ)) : Type 0 where
  pub one_list : (node list other : ℕ) → list < length lists → other < length lists →
      Contains (list_at lists list) node → Contains (list_at lists other) node → list ≡ other
  pub once : (node list : ℕ) (before after : List ℕ) → list < length lists →
      list_at lists list ≡ before ++ node ∷ after → Contains (before ++ after) node → ⊥

-- the lists once the node stands at the end of this one
abbrev pub linked : List (List ℕ) → ℕ → ℕ → List (List ℕ)
linked lists list node = slice_set lists list (list_at lists list ++ node ∷ [])

-- a list without the node
abbrev pub without : ℕ → List ℕ → List ℕ
without node = filter (λ other. not (other == node))

-- the lists once the node is taken out of the one where it stands
abbrev pub unlinked : List (List ℕ) → ℕ → List (List ℕ)
unlinked lists node = map (without node) lists

-- the first of these nodes, or `otherwise` where there are none
abbrev pub first_or : List ℕ → Option ℕ → Option ℕ
first_or [] otherwise = otherwise
first_or (node ∷ nodes) otherwise = Some node

-- the first node of a list
abbrev pub first_node : List ℕ → Option ℕ
first_node nodes = first_or nodes None

-- the node right after this one in its list: none after the last, nor for a node in no list
pub record IsNextNode (lists : List (List ℕ)) (node : ℕ) (next : Option ℕ) : Type 0 where
  pub linked : (list : ℕ) (before after : List ℕ) → list < length lists →
      list_at lists list ≡ before ++ node ∷ after → next ≡ first_node after
  pub free : IsFree lists node → next ≡ None

-- the lists before the move of this number, and the lists now where no such move stands
abbrev pub lists_at_mark : LinkedLists → ℕ → List (List ℕ)
lists_at_mark value mark = slice_index_or value.trail mark value.lists
