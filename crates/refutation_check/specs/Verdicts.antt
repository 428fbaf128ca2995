-- What is said of a tree file. Lines are counted from 1.
use Rattle.std.specs.Prelude.{◌≡◌, ℕ, ◌+◌, ◌<◌, List, [], ◌∷◌, ◌++◌, length, All}
use Rattle.std.specs.List.{AllZip}
use Rattle.net_addr.specs.Lines.{line_texts}
use Rattle.igp_theory.specs.Migrations.{Migration}
use Rattle.igp_theory.specs.Waves.{HasNoneSeamless}
use Rattle.order_search.specs.Trees.{Place, Fill, IsTreeNode, IsVisited, branch_count}
use Rattle.order_search.specs.declared.tree.Node.{Node}
use Rattle.order_search.specs.declared.tree.Node.TheVariants.{Branch, Leaf, Unvisited}
use Rattle.plan_theory.specs.Laws.{HasNoneSound}
use Rattle.plan_theory.specs.Ranked.{base_of}
use Rattle.plan_theory.specs.WavesMeaning.{night_meaning}
use Rattle.plan_theory.specs.declared.items.Items.{Items}
use Rattle.plan_theory.specs.declared.items.Items.TheVariants.{Routers, Changes}
use Rattle.refutation_check.specs.TreeLines.{tree_header, two_tree_header, pieces_of, SaysNode, as_said}
use Rattle.refutation_check.specs.WrongLines.{WrongWords, IsLowestKind}
use Rattle.refutation_check.specs.declared.verdict.Verdict.{Verdict}
use Rattle.refutation_check.specs.declared.verdict.Verdict.TheVariants.{Closed, Unfinished, Wrong}
use Rattle.refutation_check.specs.declared.verdict.WrongKind.{WrongKind}
use Rattle.refutation_check.specs.declared.verdict.WrongKind.TheVariants.{Form}

-- how many of the nodes are leaves
abbrev pub leaves_at : Node → ℕ
leaves_at (Branch a turns) = 0
leaves_at (Leaf cycle) = 1
leaves_at Unvisited = 0

abbrev pub leaf_count : List Node → ℕ
leaf_count [] = 0
leaf_count (node ∷ nodes) = leaves_at node + leaf_count nodes

-- how many of the nodes are unvisited places
abbrev pub open_at : Node → ℕ
open_at (Branch a turns) = 0
open_at (Leaf cycle) = 0
open_at Unvisited = 1

abbrev pub open_count : List Node → ℕ
open_count [] = 0
open_count (node ∷ nodes) = open_at node + open_count nodes

-- a node is right at its place: a branch names a loop of the network with both tags, each turn its number, a leaf a cycle of
-- assumed pairs
abbrev pub IsRightNode : Items → Migration → Place → Node → Type 0
IsRightNode items move = IsTreeNode (night_meaning items move).real

-- the lines say these nodes, and the nodes are right where they fill the places of a tree from the first on, each
-- followed by its children; the first place assumes the base. The places that are open then are the last argument
pub record AreRightLines (items : Items) (move : Migration) (lines : List (List ℕ)) (nodes : List Node) (left : List Place) : Type 0 where
  pub said : AllZip (λ (line : List ℕ) (node : Node). SaysNode items move.net (pieces_of line) (as_said items node)) lines nodes
  pub fills : Fill (IsRightNode items move) (base_of items (length move.net) ∷ []) nodes left

-- lines are a closed tree: it has no unvisited place, and so many branches and leaves
pub record IsClosedTreeOf (items : Items) (move : Migration) (lines : List (List ℕ)) (branches leaves : ℕ) : Type 0 where
  pub nodes : List Node
  pub right : AreRightLines items move lines nodes []
  pub visited : All IsVisited nodes
  pub branches_are : branches ≡ branch_count nodes
  pub leaves_are : leaves ≡ leaf_count nodes

-- lines are a tree that has so many unvisited places, at least one
pub record IsUnfinishedTreeOf (items : Items) (move : Migration) (lines : List (List ℕ)) (unvisited : ℕ) : Type 0 where
  pub nodes : List Node
  pub right : AreRightLines items move lines nodes []
  pub some : 0 < unvisited
  pub unvisited_are : unvisited ≡ open_count nodes

-- the first wrong one of some lines, told by how many stand before it, with its lowest kind. Those are right, and leave a first
-- place open, unless it's said otherwise
pub data IsWrongAt (items : Items) (move : Migration) (lines : List (List ℕ)) : ℕ → WrongKind → Type 0 where
  -- the line is wrong at the first open place
  wrong_there : (before : List (List ℕ)) (line : List ℕ) (after : List (List ℕ)) (nodes : List Node) (place : Place) (left : List Place)
      (kind : WrongKind) →
      lines ≡ before ++ line ∷ after → AreRightLines items move before nodes (place ∷ left) →
      IsLowestKind (WrongWords items move place (pieces_of line)) kind → IsWrongAt items move lines (length before) kind
  -- the tree is whole before the line
  after_tree : (before : List (List ℕ)) (line : List ℕ) (after : List (List ℕ)) (nodes : List Node) →
      lines ≡ before ++ line ∷ after → AreRightLines items move before nodes [] →
      IsWrongAt items move lines (length before) Form
  -- the lines end before the tree is whole
  ends_early : (nodes : List Node) (place : Place) (left : List Place) → AreRightLines items move lines nodes (place ∷ left) →
      IsWrongAt items move lines (length lines) Form

-- so it is where the lines are counted from this number
pub record IsWrongFrom (items : Items) (move : Migration) (first : ℕ) (lines : List (List ℕ)) (line : ℕ) (kind : WrongKind) : Type 0 where
  pub place : ℕ
  pub line_is : line ≡ place + first
  pub wrong : IsWrongAt items move lines place kind

-- the verdict on the lines of nodes, counted from this number
abbrev pub IsLinesVerdict : Items → Migration → ℕ → List (List ℕ) → Verdict → Type 0
IsLinesVerdict items move first lines (Closed branches leaves) = IsClosedTreeOf items move lines branches leaves
IsLinesVerdict items move first lines (Unfinished unvisited) = IsUnfinishedTreeOf items move lines unvisited
IsLinesVerdict items move first lines (Wrong line kind) = IsWrongFrom items move first lines line kind

-- Texts

-- the lines of a text are these first ones and others, of which P holds
pub record StandsBehind (head : List (List ℕ)) (text : List ℕ) (P : List (List ℕ) → Type 0) : Type 0 where
  pub lines : List (List ℕ)
  pub text_is : line_texts text ≡ head ++ lines
  pub holds : P lines

-- the first wrong line of a text whose one first line is a header; that is another or missing, or the header stands before
-- lines of nodes
pub data IsFirstWrong (items : Items) (move : Migration) (header text : List ℕ) : ℕ → WrongKind → Type 0 where
  header_missing : ((lines : List (List ℕ)) → ¬ (line_texts text ≡ header ∷ lines)) → IsFirstWrong items move header text 1 Form
  behind_header : (line : ℕ) (kind : WrongKind) → StandsBehind (header ∷ []) text (λ lines. IsWrongFrom items move 2 lines line kind) →
      IsFirstWrong items move header text line kind

-- the verdict on such a text
abbrev pub IsHeadedVerdict : Items → List ℕ → Migration → List ℕ → Verdict → Type 0
IsHeadedVerdict items header move text (Closed branches leaves) = StandsBehind (header ∷ []) text (λ lines. IsClosedTreeOf items move lines branches leaves)
IsHeadedVerdict items header move text (Unfinished unvisited) = StandsBehind (header ∷ []) text (λ lines. IsUnfinishedTreeOf items move lines unvisited)
IsHeadedVerdict items header move text (Wrong line kind) = IsFirstWrong items move header text line kind

-- the first line of a tree file, of routers and of single changes
abbrev pub tree_header_of : Items → List ℕ
tree_header_of Routers = tree_header
tree_header_of Changes = two_tree_header

-- of a tree of routers, where every router begins in Old
abbrev pub IsClosedText : Migration → List ℕ → ℕ → ℕ → Type 0
IsClosedText move text branches leaves = IsHeadedVerdict Routers tree_header move text (Closed branches leaves)

abbrev pub IsTextVerdict : Migration → List ℕ → Verdict → Type 0
IsTextVerdict = IsHeadedVerdict Routers tree_header

-- what a closed tree means there
abbrev pub RefutesWhereClosed : Migration → Verdict → Type 0
RefutesWhereClosed move (Closed branches leaves) = HasNoneSeamless move
RefutesWhereClosed move (Unfinished unvisited) = Unit {0}
RefutesWhereClosed move (Wrong line kind) = Unit {0}

-- of a tree of single changes
abbrev pub IsTwoVerdict : Migration → List ℕ → Verdict → Type 0
IsTwoVerdict = IsHeadedVerdict Changes two_tree_header

-- what a closed tree means, whatever is ranked: no ranking is good, and no list of the changes has only sound states
abbrev pub LeavesNoneWhereClosed : Items → Migration → Verdict → Type 0
LeavesNoneWhereClosed items move (Closed branches leaves) = HasNoneSound items move
LeavesNoneWhereClosed items move (Unfinished unvisited) = Unit {0}
LeavesNoneWhereClosed items move (Wrong line kind) = Unit {0}
