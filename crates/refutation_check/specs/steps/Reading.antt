-- How far a tree file has been read.
use Rattle.std.specs.Prelude.{◌≡◌, ℕ, ◌<◌, List, [], ◌∷◌, ◌++◌, map}
use Rattle.net_addr.specs.Lines.{line_texts}
use Rattle.net_addr.specs.Spans.{bytes_of}
use Rattle.net_addr.specs.declared.line.Line.{Line}
use Rattle.igp_theory.specs.Migrations.{Migration}
use Rattle.order_search.specs.Trees.{Place, branch_count}
use Rattle.order_search.specs.declared.tree.Node.{Node}
use Rattle.plan_theory.specs.declared.items.Items.{Items}
use Rattle.refutation_check.specs.TreeLines.{pieces_of, SaysNode}
use Rattle.refutation_check.specs.Verdicts.{AreRightLines, IsWrongAt, leaf_count, open_count}
use Rattle.refutation_check.specs.WrongLines.{IsLowestKind, WrongWords}
use Rattle.refutation_check.specs.declared.reading.Reading.{Reading}
use Rattle.refutation_check.specs.declared.tally.Tally.{Tally}
use Rattle.refutation_check.specs.declared.reading.WrongLine.{WrongLine}
use Rattle.refutation_check.specs.declared.verdict.Verdict.{Verdict}
use Rattle.refutation_check.specs.declared.verdict.Verdict.TheVariants.{Closed, Unfinished, Wrong}
use Rattle.refutation_check.specs.declared.verdict.WrongKind.{WrongKind}
use Rattle.refutation_check.specs.declared.verdict.WrongKind.TheVariants.{Form}
use Rattle.refutation_check.specs.steps.Counted.{CountsNode}
use Rattle.refutation_check.specs.steps.Walks.{IsTaken}

-- the bytes of some lines
abbrev pub line_bytes : List ℕ → List Line → List (List ℕ)
line_bytes text lines = map (λ (line : Line). bytes_of text line.span) lines

-- a text's lines are these first ones and entries
abbrev pub StandBehind : List (List ℕ) → List ℕ → List Line → Type 0
StandBehind head text entries = line_texts text ≡ head ++ line_bytes text entries

-- the counts are those of these nodes
pub record AreTallied (tally : Tally) (nodes : List Node) : Type 0 where
  pub branches : tally.branches ≡ branch_count nodes
  pub leaves : tally.leaves ≡ leaf_count nodes
  pub unvisited : tally.unvisited ≡ open_count nodes

-- the lines before the next one are right; their nodes are counted, and leave these places open
pub record HasReadLines (items : Items) (move : Migration) (lines : List (List ℕ)) (reading : Reading) : Type 0 where
  pub nodes : List Node
  pub right : AreRightLines items move lines nodes reading.walk.left
  pub counted : AreTallied reading.tally nodes

-- a line says a node that is right at the first open place; the node is counted, and its children are open before the other places
pub record TakesLine (items : Items) (move : Migration) (line : List ℕ) (before after : Reading) : Type 0 where
  pub said : Node
  pub says : SaysNode items move.net (pieces_of line) said
  pub taken : IsTaken items move before.walk.left after.walk.left said
  pub counts : CountsNode before.tally after.tally said

-- why a line isn't taken: no place is open, or it is wrong at the first open place
abbrev pub IsNotTaken : Items → Migration → List Place → List ℕ → WrongKind → Type 0
IsNotTaken items move [] line kind = kind ≡ Form
IsNotTaken items move (place ∷ left) line kind = IsLowestKind (WrongWords items move place (pieces_of line)) kind

-- a line is the first wrong one
abbrev pub IsFirstWrongOf : Items → Migration → List (List ℕ) → WrongLine → Type 0
IsFirstWrongOf items move lines wrong = IsWrongAt items move lines wrong.place wrong.kind

-- the verdict on a whole tree by its counts
abbrev pub IsWholeVerdict : Tally → Verdict → Type 0
IsWholeVerdict tally (Closed branches leaves) = (tally.unvisited ≡ 0) × (branches ≡ tally.branches) × (leaves ≡ tally.leaves)
IsWholeVerdict tally (Unfinished unvisited) = (0 < unvisited) × (unvisited ≡ tally.unvisited)
IsWholeVerdict tally (Wrong line kind) = ⊥

-- the verdict behind the last line: the tree is whole, or the text ended too early at this line
abbrev pub IsEndVerdict : Reading → ℕ → Verdict → Type 0
IsEndVerdict read next (Closed branches leaves) = (read.walk.left ≡ []) × IsWholeVerdict read.tally (Closed branches leaves)
IsEndVerdict read next (Unfinished unvisited) = (read.walk.left ≡ []) × IsWholeVerdict read.tally (Unfinished unvisited)
IsEndVerdict read next (Wrong line kind) = (¬ (read.walk.left ≡ [])) × (line ≡ next) × (kind ≡ Form)
