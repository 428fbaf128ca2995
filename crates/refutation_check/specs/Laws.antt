-- What a verdict means, and that a text has one.
use Rattle.std.specs.Prelude.{◌≡◌, ℕ, ◌<◌, List, [], ◌∷◌, length, All}
use Rattle.std.specs.List.{AllZip}
use Rattle.net_model.specs.Network.{Network}
use Rattle.net_model.specs.Refusals.{IsNetwork}
use Rattle.net_model.specs.RouterNames.{names_of}
use Rattle.igp_theory.specs.LoopLaws.{BeginsOld}
use Rattle.igp_theory.specs.Migrations.{Migration, started}
use Rattle.igp_theory.specs.Phases.{state_in}
use Rattle.igp_theory.specs.declared.phase.Phase.{Phase}
use Rattle.order_search.specs.Trees.{Fill, IsVisited, branch_count}
use Rattle.order_search.specs.declared.tree.Node.{Node}
use Rattle.plan_theory.specs.declared.items.Items.TheVariants.{Routers, Changes}
use Rattle.refutation_check.specs.RestVerdicts.{BeginsFrom, IsRestVerdict, LeavesNoRestWhereClosed}
use Rattle.refutation_check.specs.StartLines.{SaysStart}
use Rattle.refutation_check.specs.TreeLines.{rest_tree_header, pieces_of, SaysNode}
use Rattle.refutation_check.specs.TreeTexts.{IsPrintedNode, NodeBelow, rest_tree_text}
use Rattle.refutation_check.specs.Verdicts.{IsTextVerdict, IsTwoVerdict, RefutesWhereClosed, LeavesNoneWhereClosed}
use Rattle.refutation_check.specs.Verdicts.{IsRightNode, StandsBehind, leaf_count, open_count}
use Rattle.refutation_check.specs.declared.verdict.Verdict.{Verdict}
use Rattle.refutation_check.specs.declared.verdict.Verdict.TheVariants.{Closed, Unfinished, Wrong}

-- where every router begins in Old and a text is a closed tree, no wave list and no order of the network is seamless
abbrev pub ClosedTreesRefute : Migration → Type 0
ClosedTreesRefute move =
    (text : List ℕ) (verdict : Verdict) → BeginsOld move → IsTextVerdict move text verdict →
    RefutesWhereClosed move verdict

-- where single changes are ranked no list of all of them, each router's first before its second, has only sound states
abbrev pub ClosedTwoTreesRefute : Migration → Type 0
ClosedTwoTreesRefute move =
    (text : List ℕ) (verdict : Verdict) → BeginsOld move → IsTwoVerdict move text verdict → LeavesNoneWhereClosed Changes move verdict

-- where a text is a closed tree from a start, no list of the changes that are left there has only sound states
abbrev pub ClosedRestTreesRefute : Migration → Type 0
ClosedRestTreesRefute move =
    (text : List ℕ) (verdict : Verdict) → IsRestVerdict move text verdict → LeavesNoRestWhereClosed move text verdict

-- a text has one verdict, by each header
abbrev pub HaveOneVerdict : Migration → Type 0
HaveOneVerdict move =
    (text : List ℕ) (one other : Verdict) → IsNetwork move.net → IsTextVerdict move text one →
    IsTextVerdict move text other →
    one ≡ other

abbrev pub HaveOneTwoVerdict : Migration → Type 0
HaveOneTwoVerdict move =
    (text : List ℕ) (one other : Verdict) → BeginsOld move → IsNetwork move.net → IsTwoVerdict move text one →
    IsTwoVerdict move text other →
    one ≡ other

abbrev pub HaveOneRestVerdict : Migration → Type 0
HaveOneRestVerdict move =
    (text : List ℕ) (one other : Verdict) → IsNetwork move.net → IsRestVerdict move text one → IsRestVerdict move text other →
    one ≡ other

-- words say one start
abbrev pub SayOneStart : Migration → Type 0
SayOneStart move =
    (words : List (List ℕ)) (one other : List Phase) → IsNetwork move.net → SaysStart move.net words one →
    SaysStart move.net words other →
    one ≡ other

-- the text of some nodes and a start reads as these: its lines are the header, one that says the start, and those that say the nodes
abbrev pub ReadsAsRest : Network → List ℕ → List Phase → List Node → Type 0
ReadsAsRest net text start nodes =
    StandsBehind (rest_tree_header ∷ []) text
    (BeginsFrom net start (λ lines. AllZip (λ (line : List ℕ) (node : Node). SaysNode Routers net (pieces_of line) node) lines nodes))

-- the verdict on nodes that fill a tree, by their counts
abbrev pub IsWholeTree : List Node → Verdict → Type 0
IsWholeTree nodes (Closed branches leaves) = All IsVisited nodes × (branches ≡ branch_count nodes) × (leaves ≡ leaf_count nodes)
IsWholeTree nodes (Unfinished unvisited) = (0 < unvisited) × (unvisited ≡ open_count nodes)
IsWholeTree nodes (Wrong line kind) = ⊥

-- a printed tree and its start read back, and where the nodes are right from this start the text has their verdict
pub record IsReadBack (move : Migration) (start : List Phase) (nodes : List Node) : Type 0 where
  pub reads : ReadsAsRest move.net (rest_tree_text (names_of move.net) start nodes) start nodes
  pub fits : (verdict : Verdict) → Fill (IsRightNode Routers (started (state_in start) move)) ([] ∷ []) nodes [] →
      IsWholeTree nodes verdict → IsRestVerdict move (rest_tree_text (names_of move.net) start nodes) verdict

abbrev pub RestTreesReadBack : Migration → Type 0
RestTreesReadBack move =
    (start : List Phase) (nodes : List Node) → IsNetwork move.net → length start ≡ length move.net →
    All (NodeBelow (length move.net)) nodes → All IsPrintedNode nodes →
    IsReadBack move start nodes
