-- Moves: what each does to the lists, and the lists before and after many.
use Rattle.std.specs.Prelude.{◌≡◌, ℕ, ◌<◌, ◌≤◌, ◌^◌, List, [], ◌∷◌, ◌++◌, length, Option, slice_set, replicate}
use Rattle.std.specs.Vec.{vec_capacity}
use Rattle.link_trail.specs.declared.chain.Node.{Node}
use Rattle.link_trail.specs.declared.chain.Ends.{Ends}
use Rattle.link_trail.specs.declared.moves.Move.{Move}
use Rattle.link_trail.specs.declared.moves.Move.TheVariants.{Linked, Unlinked}
use Rattle.link_trail.specs.declared.links.Links.TheInside.{Inside}
use Rattle.link_trail.specs.Lists.{linked, list_at, unlinked}
use Rattle.link_trail.specs.Chains.{ShowsLists, last_node}

-- the lists once the move is made
abbrev pub moved : List (List ℕ) → Move → List (List ℕ)
moved lists (Linked list node) = linked lists list node
moved lists (Unlinked list node previous) = unlinked lists node

-- the lists once these moves are made, in order
abbrev pub lists_after : List (List ℕ) → List Move → List (List ℕ)
lists_after lists [] = lists
lists_after lists (move ∷ moves) = lists_after (moved lists move) moves

-- the lists before each of these moves
abbrev pub lists_before : List (List ℕ) → List Move → List (List (List ℕ))
lists_before lists [] = []
lists_before lists (move ∷ moves) = lists ∷ lists_before (moved lists move) moves

-- so many lists without nodes
abbrev pub no_lists : ℕ → List (List ℕ)
no_lists count = replicate count []

-- the node stood in this list alone, once, after `previous`
pub record StoodAfter (lists : List (List ℕ)) (list node : ℕ) (previous : Option ℕ) : Type 0 where
  pub before : List ℕ
  pub after : List ℕ
  pub list_in_range : list < length lists
  pub stood : list_at lists list ≡ before ++ node ∷ after
  pub follows : last_node before ≡ previous
  pub alone : unlinked lists node ≡ slice_set lists list (before ++ after)

-- the move tells what takes it back from the lists that it leads to
abbrev pub IsTakenBackBy : ℕ → List (List ℕ) → Move → Type 0
IsTakenBackBy nodes lists (Linked list node) = list < length lists
IsTakenBackBy nodes lists (Unlinked list node previous) = (node < nodes) × StoodAfter lists list node previous

-- each of these moves tells what takes it back
abbrev pub AllFit : ℕ → List (List ℕ) → List Move → Type 0
AllFit nodes lists [] = Unit {0}
AllFit nodes lists (move ∷ moves) = IsTakenBackBy nodes lists move × AllFit nodes (moved lists move) moves

-- nodes and ends show the lists that the moves made, and each move can be taken back
pub record AreLinks (nodes : List Node) (ends : List Ends) (moves : List Move) : Type 0 where
  pub shown : ShowsLists nodes ends (lists_after (no_lists (length ends)) moves)
  pub fit : AllFit (length nodes) (no_lists (length ends)) moves

-- what holds of the fields of every `Links`: they show the lists, and there is memory for the moves that have room
pub record AreWholeLinks (a : Inside) : Type 0 where
  pub links : AreLinks a.nodes.items a.ends.items a.moves.items
  pub within : length a.moves.items ≤ a.room
  pub reserved : a.room ≤ vec_capacity a.moves
  pub bound : a.room < 2 ^ 31
