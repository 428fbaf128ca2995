-- The lines of a tree file, and which node of a tree a line is. The words of a line are the pieces between its blanks. A branch
-- names routers; a leaf names what is ranked: routers in a tree of version 1 or 3, single changes in one of version 2.
use Rattle.std.specs.Prelude.{◌≡◌, ◌≢◌, ℕ, ◌<◌, ◌≤◌, List, [], ◌∷◌, ◌++◌, length, map, codes, All, AllPairs}
use Rattle.std.specs.List.{AllZip, slice_split}
use Rattle.net_addr.specs.AddressWords.{IsAddressWord}
use Rattle.net_addr.specs.Blanks.{is_blank}
use Rattle.net_model.specs.Lookups.{IsNamed}
use Rattle.net_model.specs.Network.{Network}
use Rattle.order_core.specs.Orders.{AreDistinct}
use Rattle.order_core.specs.declared.turn.Tag.{Tag}
use Rattle.order_core.specs.declared.turn.Tag.TheVariants.{Old, New, Both}
use Rattle.order_core.specs.declared.turn.Turn.{Turn}
use Rattle.plan_theory.specs.Numbers.{IsNumberWord, NamesNumber}
use Rattle.plan_theory.specs.Ranked.{by_router}
use Rattle.plan_theory.specs.declared.items.Items.{Items}
use Rattle.plan_theory.specs.declared.items.Items.TheVariants.{Routers, Changes}
use Rattle.order_search.specs.declared.tree.Node.{Node}
use Rattle.order_search.specs.declared.tree.Node.TheVariants.{Branch, Leaf, Unvisited}

-- the first line of a tree file, where routers are ranked, where single changes are, and where routers are ranked from a start
abbrev pub tree_header : List ℕ
tree_header = codes "tree 1"

abbrev pub two_tree_header : List ℕ
two_tree_header = codes "tree 2"

abbrev pub rest_tree_header : List ℕ
rest_tree_header = codes "tree 3"

-- the pieces of a line between its blanks. One of them is empty where the line begins or ends with a blank,
-- or holds two in a row; a line of words joined by one blank has just these words
abbrev pub pieces_of : List ℕ → List (List ℕ)
pieces_of line = slice_split is_blank line

-- the letter of a tag: `O` (79), `N` (78) or `B` (66)
abbrev pub letter_of : Tag → ℕ
letter_of Old = 79
letter_of New = 78
letter_of Both = 66

-- an entry of a branch: a name of a byte or more, a colon (58), and the letter of a tag
pub record IsEntry (word name : List ℕ) (tag : Tag) : Type 0 where
  pub some : 0 < length name
  pub written : word ≡ name ++ 58 ∷ letter_of tag ∷ []

-- an entry, whatever its name and tag
pub record IsSomeEntry (word : List ℕ) : Type 0 where
  pub name : List ℕ
  pub tag : Tag
  pub entry : IsEntry word name tag

-- the line of a branch: the word `branch`, an address, and two or more further words
pub record IsBranchLine (words : List (List ℕ)) (a : ℕ) (entries : List (List ℕ)) : Type 0 where
  pub address : List ℕ
  pub words_are : words ≡ codes "branch" ∷ address ∷ entries
  pub stands : IsAddressWord address a
  pub some : 2 ≤ length entries

-- the line of a leaf: the word `leaf`, and two or more further words
pub record IsLeafLine (items : Items) (words names : List (List ℕ)) : Type 0 where
  pub words_are : words ≡ codes "leaf" ∷ names
  pub some : 2 ≤ length names
  pub filled : All (IsNumberWord items) names

-- words have the form of a node: of a branch, of a leaf, or of an unvisited place
pub data HasForm (items : Items) (words : List (List ℕ)) : Type 0 where
  branch_form : (a : ℕ) (entries : List (List ℕ)) → IsBranchLine words a entries → All IsSomeEntry entries → HasForm items words
  leaf_form : (names : List (List ℕ)) → IsLeafLine items words names → HasForm items words
  open_form : words ≡ codes "open" ∷ [] → HasForm items words

-- an entry says a turn: its name is the router's, its letter that of the tag
pub record SaysTurn (net : Network) (word : List ℕ) (turn : Turn) : Type 0 where
  pub name : List ℕ
  pub entry : IsEntry word name turn.tag
  pub named : IsNamed net name turn.router

-- words say a branch: its address, and its turns of distinct routers in order
pub record SaysBranch (net : Network) (words : List (List ℕ)) (a : ℕ) (turns : List Turn) : Type 0 where
  pub entries : List (List ℕ)
  pub line : IsBranchLine words a entries
  pub said : AllZip (SaysTurn net) entries turns
  pub distinct : AllPairs (λ (s t : Turn). s.router ≢ t.router) turns

-- words say a leaf: its distinct numbers in order
pub record SaysLeaf (items : Items) (net : Network) (words : List (List ℕ)) (cycle : List ℕ) : Type 0 where
  pub names : List (List ℕ)
  pub line : IsLeafLine items words names
  pub named : AllZip (NamesNumber items net) names cycle
  pub distinct : AreDistinct cycle

-- words say a node over the names of a network; the turns of a branch are by their routers
abbrev pub SaysNode : Items → Network → List (List ℕ) → Node → Type 0
SaysNode items net words (Branch a turns) = SaysBranch net words a turns
SaysNode items net words (Leaf cycle) = SaysLeaf items net words cycle
SaysNode items net words Unvisited = words ≡ codes "open" ∷ []

-- a node as its line says it: a branch has its turns by their routers
abbrev pub as_said : Items → Node → Node
as_said Routers node = node
as_said Changes (Branch a turns) = Branch a (map by_router turns)
as_said Changes (Leaf cycle) = Leaf cycle
as_said Changes Unvisited = Unvisited
