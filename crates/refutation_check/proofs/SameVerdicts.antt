-- Over tables with the same entries at the routers of the network a text has the same verdict, and means the same.
use Rattle.std.proofs.Common.{arith}
use Rattle.std.proofs.lemmas.Grind.{common_steps}
use Rattle.std.proofs.Common.{ℕ, List, [], ◌∷◌, length}
use Rattle.igp_theory.specs.Laws.{HaveSameTables}
use Rattle.igp_theory.specs.Migrations.{Migration, retabled}
use Rattle.igp_theory.specs.Routes.{Tables}
use Rattle.igp_theory.proofs.SameTables.{same_tables_sym, around_ring_over, seamless_over, tag_over}
use Rattle.igp_theory.proofs.WaveFaultLaws.{seamless_waves_over}
use Rattle.order_core.specs.declared.turn.Turn.{Turn}
use Rattle.order_search.specs.Trees.{Place}
use Rattle.order_search.specs.declared.tree.Node.{Node}
use Rattle.order_search.specs.declared.tree.Node.TheVariants.{Branch, Leaf, Unvisited}
use Rattle.order_search.proofs.Fills.{Fill-weaker}
use Rattle.refutation_check.specs.TreeLines.{pieces_of}
use Rattle.plan_theory.specs.Ranked.{base_of}
use Rattle.plan_theory.specs.declared.items.Items.{Items}
use Rattle.plan_theory.specs.declared.items.Items.TheVariants.{Routers}
use Rattle.plan_theory.proofs.PlanTables.{real_stays}
use Rattle.refutation_check.specs.Verdicts.{AreRightLines, IsHeadedVerdict, IsLinesVerdict, IsRightNode, IsTextVerdict, IsWrongAt}
use Rattle.igp_theory.specs.Waves.{HasNoneSeamless}
use Rattle.refutation_check.specs.Verdicts.{behind_header, header_missing, wrong_there, after_tree, ends_early}
use Rattle.refutation_check.specs.WrongLines.{IsLowestKind, WrongBranch, WrongNode, WrongWords}
use Rattle.refutation_check.specs.declared.verdict.Verdict.{Verdict}
use Rattle.refutation_check.specs.declared.verdict.Verdict.TheVariants.{Closed, Unfinished, Wrong}
use Rattle.refutation_check.specs.declared.verdict.WrongKind.{WrongKind}
use Rattle.refutation_check.specs.declared.verdict.WrongKind.TheVariants.{Form, Router, Address, Originator, Step, OneSided, NotAssumed}

-- the same branches are wrong
branch_over : (move : Migration) (old' new' : Tables) → HaveSameTables move old' new' → (a : ℕ) (turns : List Turn) (kind : WrongKind) →
    WrongBranch move a turns kind → WrongBranch (retabled move old' new') a turns kind
branch_over move old' new' same a turns Form w = w
branch_over move old' new' same a turns Router w = w
branch_over move old' new' same a turns Address w = w
branch_over move old' new' same a turns Originator w = w
branch_over move old' new' same a turns Step w =
    λ round. w (around_ring_over (λ (r s : Turn). tag_over {next = s.router} {r = r} (same_tables_sym same)) turns round)
branch_over move old' new' same a turns OneSided w = w
branch_over move old' new' same a turns NotAssumed w = w

wrong_over : (move : Migration) (old' new' : Tables) → HaveSameTables move old' new' → (place : Place) (node : Node) (kind : WrongKind) →
    WrongNode move place node kind → WrongNode (retabled move old' new') place node kind
wrong_over move old' new' same place (Branch a turns) kind w = branch_over move old' new' same a turns kind w
wrong_over move old' new' same place (Leaf cycle) kind w = w
wrong_over move old' new' same place Unvisited kind w = w

-- and the same words
words_over : (items : Items) (move : Migration) (old' new' : Tables) → HaveSameTables move old' new' →
    (place : Place) (words : List (List ℕ)) (kind : WrongKind)
    → WrongWords items move place words kind → WrongWords items (retabled move old' new') place words kind
words_over items move old' new' same place words kind w = grind (arith, common_steps, wrong_over)

-- the same nodes are right
right_over : (items : Items) (move : Migration) (old' new' : Tables) → HaveSameTables move old' new' → (place : Place) (node : Node) →
    IsRightNode items move place node → IsRightNode items (retabled move old' new') place node
right_over items move old' new' same place it_6 right = grind (arith, common_steps, real_stays)

module _ (items : Items) (move : Migration) (old' new' : Tables) (same : HaveSameTables move old' new') where
  lowest_over : (place : Place) (words : List (List ℕ)) (kind : WrongKind) → IsLowestKind (WrongWords items move place words) kind →
      IsLowestKind (WrongWords items (retabled move old' new') place words) kind
  lowest_over place words kind low = record {
    wrong = words_over items move old' new' same place words kind low.wrong;
    lowest = λ other w. low.lowest other (words_over items (retabled move old' new') move.old move.new (same_tables_sym same) place words other w);
  }

  lines_over : (lines : List (List ℕ)) (nodes : List Node) (left : List Place) → AreRightLines items move lines nodes left →
      AreRightLines items (retabled move old' new') lines nodes left
  lines_over lines nodes left right = record {
    said = right.said;
    fills = Fill-weaker (IsRightNode items move) (IsRightNode items (retabled move old' new')) (right_over items move old' new' same)
        (base_of items (length move.net) ∷ []) left nodes right.fills;
  }

  wrong_line_over : (lines : List (List ℕ)) (place : ℕ) (kind : WrongKind) → IsWrongAt items move lines place kind →
      IsWrongAt items (retabled move old' new') lines place kind
  wrong_line_over lines place kind (wrong_there before x after nodes at left k is right low) =
      wrong_there before x after nodes at left k is (lines_over before nodes (at ∷ left) right) (lowest_over at (pieces_of x) k low)
  wrong_line_over lines place kind (after_tree before x after nodes is right) = after_tree before x after nodes is (lines_over before nodes [] right)
  wrong_line_over lines place kind (ends_early nodes at left right) = ends_early nodes at left (lines_over lines nodes (at ∷ left) right)

  -- lines have the same verdict
  pub lines_verdict_over : (first : ℕ) (lines : List (List ℕ)) (verdict : Verdict) → IsLinesVerdict items move first lines verdict →
      IsLinesVerdict items (retabled move old' new') first lines verdict
  lines_verdict_over first lines (Closed branches leaves) is = record {
    nodes = is.nodes;
    right = lines_over lines is.nodes [] is.right;
    visited = is.visited;
    branches_are = is.branches_are;
    leaves_are = is.leaves_are;
  }
  lines_verdict_over first lines (Unfinished unvisited) is =
      record { nodes = is.nodes; right = lines_over lines is.nodes [] is.right; some = is.some; unvisited_are = is.unvisited_are }
  lines_verdict_over first lines (Wrong line kind) is =
      record { place = is.place; line_is = is.line_is; wrong = wrong_line_over lines is.place kind is.wrong }

  -- and so have texts behind a header
  pub headed_over : (header text : List ℕ) (verdict : Verdict) → IsHeadedVerdict items header move text verdict →
      IsHeadedVerdict items header (retabled move old' new') text verdict
  headed_over header text (Closed branches leaves) is =
      record { lines = is.lines; text_is = is.text_is; holds = lines_verdict_over 2 is.lines (Closed branches leaves) is.holds }
  headed_over header text (Unfinished unvisited) is =
      record { lines = is.lines; text_is = is.text_is; holds = lines_verdict_over 2 is.lines (Unfinished unvisited) is.holds }
  headed_over header text (Wrong line kind) (header_missing none) = header_missing none
  headed_over header text (Wrong line kind) (behind_header n k is) =
      behind_header n k (record { lines = is.lines; text_is = is.text_is; holds = lines_verdict_over 2 is.lines (Wrong n k) is.holds })

module _ (move : Migration) (old' new' : Tables) (same : HaveSameTables move old' new') where
  -- a text has the same verdict
  pub verdict_over : (text : List ℕ) (verdict : Verdict) → IsTextVerdict move text verdict → IsTextVerdict (retabled move old' new') text verdict
  verdict_over text verdict is = headed_over Routers move old' new' same _ text verdict is

  -- where no wave list and no order is seamless, none is
  pub none_over : HasNoneSeamless move → HasNoneSeamless (retabled move old' new')
  none_over none = record {
    waves = λ ranks seamless. none.waves ranks (seamless_waves_over (same_tables_sym same) seamless);
    orders = λ order seamless. none.orders order (seamless_over (same_tables_sym same) seamless);
  }
