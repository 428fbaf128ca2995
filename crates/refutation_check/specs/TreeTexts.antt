-- How trees are printed, and that a printed tree reads back.
use Rattle.std.specs.Prelude.{◌≡◌, ◌≢◌, ℕ, ◌^◌, ◌/◌, ◌<◌, ◌≤◌, List, [], ◌∷◌, ◌++◌, length, map, codes, All, AllPairs}
use Rattle.std.specs.List.{AllZip}
use Rattle.net_addr.specs.Lines.{line_texts}
use Rattle.net_model.specs.Network.{Network}
use Rattle.net_model.specs.Refusals.{IsNetwork}
use Rattle.net_model.specs.RouterNames.{names_of}
use Rattle.igp_theory.specs.declared.phase.Phase.{Phase}
use Rattle.order_core.specs.Orders.{AreDistinct}
use Rattle.order_core.specs.declared.turn.Turn.{Turn}
use Rattle.order_search.specs.declared.tree.Node.{Node}
use Rattle.order_search.specs.declared.tree.Node.TheVariants.{Branch, Leaf, Unvisited}
use Rattle.printed_lines.specs.Texts.{text_of}
use Rattle.printed_lines.specs.Words.{joined, dotted, router_word}
use Rattle.change_orders.specs.TwoTexts.{item_word}
use Rattle.plan_theory.specs.declared.items.Items.{Items}
use Rattle.plan_theory.specs.declared.items.Items.TheVariants.{Routers, Changes}
use Rattle.plan_theory.specs.Ranked.{size_of}
use Rattle.refutation_check.specs.StartLines.{start_words}
use Rattle.refutation_check.specs.TreeLines.{as_said, tree_header, two_tree_header, rest_tree_header, letter_of, pieces_of, SaysNode}
use Rattle.refutation_check.specs.Verdicts.{tree_header_of}

-- the router of a number
abbrev pub ranked_router : Items → ℕ → ℕ
ranked_router Routers number = number
ranked_router Changes number = number / 2

-- a turn by the router of its number
abbrev pub turn_word : Items → List (List ℕ) → Turn → List ℕ
turn_word items names turn = router_word names (ranked_router items turn.router) ++ 58 ∷ letter_of turn.tag ∷ []

-- a number: the name of its router, or the word of its change
abbrev pub number_word : Items → List (List ℕ) → ℕ → List ℕ
number_word Routers names number = router_word names number
number_word Changes names number = item_word names number

-- the words of a node
abbrev pub node_words : Items → List (List ℕ) → Node → List (List ℕ)
node_words items names (Branch a turns) = codes "branch" ∷ dotted a ∷ map (turn_word items names) turns
node_words items names (Leaf cycle) = codes "leaf" ∷ map (number_word items names) cycle
node_words items names Unvisited = codes "open" ∷ []

-- the line of a node
abbrev pub node_line : Items → List (List ℕ) → Node → List ℕ
node_line items names node = joined (node_words items names node)

-- the text of a tree: the header of what is ranked, then a line for each node
abbrev pub ranked_tree_text : Items → List (List ℕ) → List Node → List ℕ
ranked_tree_text items names nodes = text_of (tree_header_of items ∷ map (node_line items names) nodes)

-- of a tree of routers, and of one of single changes
abbrev pub tree_text : List (List ℕ) → List Node → List ℕ
tree_text names nodes = text_of (tree_header ∷ map (node_line Routers names) nodes)

abbrev pub two_tree_text : List (List ℕ) → List Node → List ℕ
two_tree_text names nodes = text_of (two_tree_header ∷ map (node_line Changes names) nodes)

-- the line of a start, and the text of a tree of routers from it
abbrev pub start_line : List (List ℕ) → List Phase → List ℕ
start_line names start = joined (start_words names start)

abbrev pub rest_tree_text : List (List ℕ) → List Phase → List Node → List ℕ
rest_tree_text names start nodes = text_of (rest_tree_header ∷ start_line names start ∷ map (node_line Routers names) nodes)

-- the numbers of a node are below the count
abbrev pub NodeBelow : ℕ → Node → Type 0
NodeBelow count (Branch a turns) = All (λ (turn : Turn). turn.router < count) turns
NodeBelow count (Leaf cycle) = All (λ (u : ℕ). u < count) cycle
NodeBelow count Unvisited = Unit {0}

-- two or more turns of distinct routers
pub record AreDistinctTurns (turns : List Turn) : Type 0 where
  pub some : 2 ≤ length turns
  pub distinct : AllPairs (λ (s t : Turn). s.router ≢ t.router) turns

-- two or more distinct routers
pub record AreDistinctRouters (cycle : List ℕ) : Type 0 where
  pub some : 2 ≤ length cycle
  pub distinct : AreDistinct cycle

-- a node that reads back, as its line says it: a branch of an address with such turns, a leaf of such routers or changes
abbrev pub IsPrintedNode : Node → Type 0
IsPrintedNode (Branch a turns) = (a < 2 ^ 32) × AreDistinctTurns turns
IsPrintedNode (Leaf cycle) = AreDistinctRouters cycle
IsPrintedNode Unvisited = Unit {0}

-- the text of some nodes reads as these: its lines are the header and lines that say them
pub record ReadsAsNodes (items : Items) (net : Network) (text : List ℕ) (nodes : List Node) : Type 0 where
  pub lines : List (List ℕ)
  pub text_is : line_texts text ≡ tree_header_of items ∷ lines
  pub said : AllZip (λ (line : List ℕ) (node : Node). SaysNode items net (pieces_of line) (as_said items node)) lines nodes

-- the text of nodes of what is ranked in a network reads as these nodes
abbrev pub TreesReadBack : Type 0
TreesReadBack =
    (items : Items) (net : Network) (nodes : List Node) → IsNetwork net → All (NodeBelow (size_of items (length net))) nodes →
    All (λ node. IsPrintedNode (as_said items node)) nodes →
    ReadsAsNodes items net (ranked_tree_text items (names_of net) nodes) nodes
