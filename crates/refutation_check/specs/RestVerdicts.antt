-- What is said of a tree file from a start, whose second line says the phase in which each router begins. Lines are counted from 1.
use Rattle.std.specs.Prelude.{◌≡◌, ℕ, List, [], ◌∷◌}
use Rattle.net_addr.specs.Lines.{line_texts}
use Rattle.net_model.specs.Network.{Network}
use Rattle.igp_theory.specs.Migrations.{Migration, started}
use Rattle.igp_theory.specs.Phases.{state_in}
use Rattle.igp_theory.specs.declared.phase.Phase.{Phase}
use Rattle.plan_theory.specs.Laws.{HasNoneSound}
use Rattle.plan_theory.specs.declared.items.Items.TheVariants.{Routers}
use Rattle.refutation_check.specs.StartLines.{SaysStart, WrongStart}
use Rattle.refutation_check.specs.TreeLines.{rest_tree_header, pieces_of}
use Rattle.refutation_check.specs.Verdicts.{IsLinesVerdict, StandsBehind}
use Rattle.refutation_check.specs.WrongLines.{IsLowestKind}
use Rattle.refutation_check.specs.declared.verdict.Verdict.{Verdict}
use Rattle.refutation_check.specs.declared.verdict.Verdict.TheVariants.{Closed, Unfinished, Wrong}
use Rattle.refutation_check.specs.declared.verdict.WrongKind.{WrongKind}
use Rattle.refutation_check.specs.declared.verdict.WrongKind.TheVariants.{Form}

-- the first of some lines says this start, and P holds of those behind it
pub record BeginsFrom (net : Network) (start : List Phase) (P : List (List ℕ) → Type 0) (lines : List (List ℕ)) : Type 0 where
  pub line : List ℕ
  pub nodes : List (List ℕ)
  pub lines_are : lines ≡ line ∷ nodes
  pub says : SaysStart net (pieces_of line) start
  pub holds : P nodes

-- the verdict on the lines behind the header: there is none, the first is wrong as the line of a start, or it says a start, from
-- which the lines behind it are judged
pub data IsStartedVerdict (move : Migration) (lines : List (List ℕ)) : Verdict → Type 0 where
  no_start_line : lines ≡ [] → IsStartedVerdict move lines (Wrong 2 Form)
  wrong_start_line : (line : List ℕ) (nodes : List (List ℕ)) (kind : WrongKind) → lines ≡ line ∷ nodes →
      IsLowestKind (WrongStart move.net (pieces_of line)) kind → IsStartedVerdict move lines (Wrong 2 kind)
  from_start : (start : List Phase) (verdict : Verdict) →
      BeginsFrom move.net start (λ nodes. IsLinesVerdict Routers (started (state_in start) move) 3 nodes verdict) lines →
      IsStartedVerdict move lines verdict

-- the verdict on a text: its first line is no header, or it's that on the lines behind the header
pub data IsRestVerdict (move : Migration) (text : List ℕ) : Verdict → Type 0 where
  no_rest_header : ((lines : List (List ℕ)) → ¬ (line_texts text ≡ rest_tree_header ∷ lines)) → IsRestVerdict move text (Wrong 1 Form)
  behind_rest_header : (verdict : Verdict) → StandsBehind (rest_tree_header ∷ []) text (λ lines. IsStartedVerdict move lines verdict) →
      IsRestVerdict move text verdict

-- no ranking of what is left at the start that the first line says is good, and no list of the changes that are left there, each
-- router's first before its second and its two next to each other where both are left, has only sound states
pub record LeavesNoRest (move : Migration) (lines : List (List ℕ)) : Type 0 where
  pub start : List Phase
  pub none : BeginsFrom move.net start (λ nodes. HasNoneSound Routers (started (state_in start) move)) lines

-- what a closed tree means, whatever its start is
abbrev pub LeavesNoRestWhereClosed : Migration → List ℕ → Verdict → Type 0
LeavesNoRestWhereClosed move text (Closed branches leaves) = StandsBehind (rest_tree_header ∷ []) text (LeavesNoRest move)
LeavesNoRestWhereClosed move text (Unfinished unvisited) = Unit {0}
LeavesNoRestWhereClosed move text (Wrong line kind) = Unit {0}
