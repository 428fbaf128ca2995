-- How the words of a line are held: as spans of the text.
use Rattle.std.specs.Prelude.{◌≡◌, ℕ, List, [], ◌∷◌, codes, All}
use Rattle.net_addr.specs.Spans.{LiesIn}
use Rattle.net_addr.specs.declared.span.Span.{Span}
use Rattle.net_model.specs.Network.{Network}
use Rattle.order_search.specs.declared.tree.Node.{Node}
use Rattle.plan_theory.specs.declared.items.Items.{Items}
use Rattle.refutation_check.specs.TreeLines.{HasForm, IsBranchLine, IsLeafLine, IsSomeEntry, SaysNode}
use Rattle.refutation_check.specs.declared.shape.Shape.{Shape}
use Rattle.refutation_check.specs.declared.shape.Shape.TheVariants.{Branch, Leaf, Open}
use Rattle.refutation_check.specs.declared.verdict.WrongKind.{WrongKind}
use Rattle.refutation_check.specs.declared.verdict.WrongKind.TheVariants.{Form, Router, Address, Originator, Step, OneSided, NotAssumed}
use Rattle.refutation_check.specs.steps.Spans.{span_texts}

-- words are the line of a branch with these entries
pub record IsBranchShape (text : List ℕ) (words : List (List ℕ)) (a : ℕ) (entries : List Span) : Type 0 where
  pub line : IsBranchLine words a (span_texts text entries)
  pub tagged : All IsSomeEntry (span_texts text entries)
  pub inside : All (LiesIn text) entries

-- words are the line of a leaf with these names
pub record IsLeafShape (items : Items) (text : List ℕ) (words : List (List ℕ)) (names : List Span) : Type 0 where
  pub line : IsLeafLine items words (span_texts text names)
  pub inside : All (LiesIn text) names

-- the words have this shape
abbrev pub IsShape : Items → List ℕ → List (List ℕ) → Shape → Type 0
IsShape items text words (Branch a entries) = IsBranchShape text words a entries.now
IsShape items text words (Leaf names) = IsLeafShape items text words names.now
IsShape items text words Open = words ≡ codes "open" ∷ []

-- the words of a shape stand in the text
abbrev pub LieInside : List ℕ → Shape → Type 0
LieInside text (Branch a entries) = All (LiesIn text) entries.now
LieInside text (Leaf names) = All (LiesIn text) names.now
LieInside text Open = Unit {0}

-- words have a form, and say no node
pub record SaysNone (items : Items) (net : Network) (words : List (List ℕ)) : Type 0 where
  pub form : HasForm items words
  pub none : (node : Node) → ¬ SaysNode items net words node

-- why words say no node
abbrev pub SaysNoNode : Items → Network → List (List ℕ) → WrongKind → Type 0
SaysNoNode items net words Form = ¬ HasForm items words
SaysNoNode items net words Router = SaysNone items net words
SaysNoNode items net words Address = ⊥
SaysNoNode items net words Originator = ⊥
SaysNoNode items net words Step = ⊥
SaysNoNode items net words OneSided = ⊥
SaysNoNode items net words NotAssumed = ⊥
