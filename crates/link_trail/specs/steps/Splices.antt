-- Nodes and ends with some neighbors changed, and what is shown once a node is put in or taken out.
use Rattle.std.specs.Prelude.{◌≡◌, ℕ, List, ◌∷◌, ◌++◌, Option, Some, None, slice_set}
use Rattle.link_trail.specs.declared.chain.Node.{Node}
use Rattle.link_trail.specs.declared.chain.Ends.{Ends}
use Rattle.link_trail.specs.Lists.{IsFree, first_node, list_at}
use Rattle.link_trail.specs.Chains.{node_at, ends_at, last_node, ShowsLists, Stretch}

-- the node that follows `previous`, or the list's first
abbrev pub next_after : List Node → List Ends → ℕ → Option ℕ → Option ℕ
next_after nodes ends list None = (ends_at ends list).first
next_after nodes ends list (Some p) = (node_at nodes p).next

-- the nodes once `next` follows `previous`
abbrev pub with_next : List Node → Option ℕ → Option ℕ → List Node
with_next nodes None next = nodes
with_next nodes (Some p) next =
    slice_set nodes p (record { list = (node_at nodes p).list; previous = (node_at nodes p).previous; next = next })

-- the nodes once `previous` stands before `next`
abbrev pub with_previous : List Node → Option ℕ → Option ℕ → List Node
with_previous nodes None previous = nodes
with_previous nodes (Some n) previous =
    slice_set nodes n (record { list = (node_at nodes n).list; previous = previous; next = (node_at nodes n).next })

-- the ends once the list begins with `next`, where nothing comes before
abbrev pub with_first : List Ends → ℕ → Option ℕ → Option ℕ → List Ends
with_first ends list None next =
    slice_set ends list (record { first = next; last = (ends_at ends list).last })
with_first ends list (Some p) next = ends

-- the ends once the list ends with `previous`, where nothing comes after
abbrev pub with_last : List Ends → ℕ → Option ℕ → Option ℕ → List Ends
with_last ends list None previous =
    slice_set ends list (record { first = (ends_at ends list).first; last = previous })
with_last ends list (Some n) previous = ends

-- what is kept of lists: the neighbors of each node, and the ends of each list
pub record KeptLists : Type 0 where
  pub nodes : List Node
  pub ends : List Ends

-- these nodes and ends
abbrev pub kept : List Node → List Ends → KeptLists
kept nodes ends = record { nodes = nodes; ends = ends }

-- nodes and ends show the node in this stretch, where they showed none in it
pub record PutsBetween (old new : KeptLists) (stretch : Stretch) (node : ℕ) : Type 0 where
  pub shows : (lists : List (List ℕ)) (before after : List ℕ) → ShowsLists old.nodes old.ends lists →
      IsFree lists node → list_at lists stretch.list ≡ before ++ after →
      last_node before ≡ stretch.previous → first_node after ≡ stretch.next →
      ShowsLists new.nodes new.ends (slice_set lists stretch.list (before ++ node ∷ after))

-- nodes and ends show the list without the node
pub record TakesOut (old new : KeptLists) (list node : ℕ) : Type 0 where
  pub shows : (lists : List (List ℕ)) (before after : List ℕ) → ShowsLists old.nodes old.ends lists →
      list_at lists list ≡ before ++ node ∷ after →
      ShowsLists new.nodes new.ends (slice_set lists list (before ++ after))
