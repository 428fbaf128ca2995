-- Tree files from a start: what a closed one means, that a text has one verdict, and that what is printed reads back.
use Rattle.std.proofs.lemmas.Grind.{common_steps}
use Rattle.std.proofs.Common.{◌≡◌, ℕ, ◌+◌, List, [], ◌∷◌, length, get_or, map, codes, arith, refl, sym, ap, ◌∙◌, subst}
use Rattle.std.specs.List.{All, AllZip}
use Rattle.std.proofs.lemmas.List.Elements.{All-cons, All-map, All-nil, All-weaker}
use Rattle.net_addr.specs.Lines.{line_texts}
use Rattle.net_model.specs.Network.{Network}
use Rattle.net_model.specs.Refusals.{IsNetwork}
use Rattle.net_model.specs.RouterNames.{names_of}
use Rattle.igp_theory.specs.Migrations.{Migration, started}
use Rattle.igp_theory.specs.Phases.{state_in}
use Rattle.igp_theory.specs.declared.phase.Phase.{Phase}
use Rattle.order_search.specs.declared.tree.Node.{Node}
use Rattle.plan_theory.specs.declared.items.Items.TheVariants.{Routers}
use Rattle.printed_lines.specs.Texts.{IsPrintedLine}
use Rattle.printed_lines.specs.Words.{IsPrintedWord}
use Rattle.printed_lines.proofs.LineFacts.{lines_read_back}
use Rattle.printed_lines.proofs.NumberFacts.{IsWordByte-above_blank, marked-IsPrintedWord}
use Rattle.printed_lines.proofs.WordFacts.{words_make_lines}
use Rattle.refutation_check.specs.Laws.{IsReadBack, IsWholeTree}
use Rattle.refutation_check.specs.RestVerdicts.{BeginsFrom, IsRestVerdict, IsStartedVerdict, LeavesNoRest, LeavesNoRestWhereClosed}
use Rattle.refutation_check.specs.RestVerdicts.{behind_rest_header, from_start, no_rest_header, no_start_line, wrong_start_line}
use Rattle.refutation_check.specs.StartLines.{SaysStart, WrongStart, done_words, start_words}
use Rattle.refutation_check.specs.TreeLines.{SaysNode, pieces_of, rest_tree_header}
use Rattle.refutation_check.specs.TreeTexts.{IsPrintedNode, NodeBelow, node_line, rest_tree_text, start_line}
use Rattle.refutation_check.specs.Verdicts.{AreRightLines, IsLinesVerdict}
use Rattle.refutation_check.specs.WrongLines.{IsLowestKind}
use Rattle.refutation_check.specs.declared.verdict.Verdict.{Verdict}
use Rattle.refutation_check.specs.declared.verdict.Verdict.TheVariants.{Closed, Wrong}
use Rattle.refutation_check.specs.declared.verdict.WrongKind.{WrongKind}
use Rattle.refutation_check.proofs.DoneWords.{done_all, many_names, one_start, says_right}
use Rattle.refutation_check.proofs.OneVerdict.{one_lines_verdict, one_lowest}
use Rattle.refutation_check.proofs.PrintedTrees.{IsFine, above_blank, digit_word, line_is, line_says, map_says, name_word, pieces_of-joined, tree_is_word}
use Rattle.refutation_check.proofs.Refuting.{closed_leaves_none}
use Rattle.refutation_check.proofs.SaidNodes.{first_word, later_words}

-- What a closed one means

started_refutes : (move : Migration) (lines : List (List ℕ)) (branches leaves : ℕ) → IsStartedVerdict move lines (Closed branches leaves) →
    LeavesNoRest move lines
started_refutes move lines branches leaves (from_start start verdict begins) = record {
  start = start;
  none = record {
    line = begins.line;
    nodes = begins.nodes;
    lines_are = begins.lines_are;
    says = begins.says;
    holds = closed_leaves_none Routers (started (state_in start) move) tt begins.nodes branches leaves begins.holds;
  };
}

pub rest_refutes : (move : Migration) (text : List ℕ) (verdict : Verdict) → IsRestVerdict move text verdict → LeavesNoRestWhereClosed move text verdict
rest_refutes move text verdict is = grind (arith, common_steps, started_refutes)

-- One verdict

no_line : {P : Type 0} (line : List ℕ) (more lines : List (List ℕ)) → lines ≡ [] → lines ≡ line ∷ more → P
no_line line more lines none some = absurd (omega (arith, ap (λ (l : List (List ℕ)). length l) (sym none ∙ some)))

module _ (move : Migration) (network : IsNetwork move.net) where
  one_wrong_start : (lines : List (List ℕ)) (x y : List ℕ) (xs ys : List (List ℕ)) (j k : WrongKind) → lines ≡ x ∷ xs → lines ≡ y ∷ ys →
      IsLowestKind (WrongStart move.net (pieces_of x)) j → IsLowestKind (WrongStart move.net (pieces_of y)) k → j ≡ k
  one_wrong_start lines x y xs ys j k is also low least =
      one_lowest (WrongStart move.net (pieces_of y)) j k
      (subst (λ (l : List ℕ). IsLowestKind (WrongStart move.net (pieces_of l)) j) (first_word x y xs ys (sym is ∙ also)) low) least

  never_wrong : (lines : List (List ℕ)) (x : List ℕ) (xs : List (List ℕ)) (k : WrongKind) (start : List Phase) (P : List (List ℕ) → Type 0) →
      lines ≡ x ∷ xs → IsLowestKind (WrongStart move.net (pieces_of x)) k → BeginsFrom move.net start P lines → ⊥
  never_wrong lines x xs k start P is low begins =
      says_right move.net network (pieces_of begins.line) start k begins.says
      (subst (λ (l : List ℕ). WrongStart move.net (pieces_of l) k) (first_word x begins.line xs begins.nodes (sym is ∙ begins.lines_are)) low.wrong)

  one_from_start : (lines : List (List ℕ)) (s t : List Phase) (v w : Verdict) →
      BeginsFrom move.net s (λ nodes. IsLinesVerdict Routers (started (state_in s) move) 3 nodes v) lines →
      BeginsFrom move.net t (λ nodes. IsLinesVerdict Routers (started (state_in t) move) 3 nodes w) lines → v ≡ w
  one_from_start lines s t v w one other =
      let parts = sym one.lines_are ∙ other.lines_are in
      let line : one.line ≡ other.line = first_word one.line other.line one.nodes other.nodes parts in
      let nodes : one.nodes ≡ other.nodes = later_words one.line other.line one.nodes other.nodes parts in
      let start : s ≡ t =
      one_start move.net network (pieces_of other.line) s t (subst (λ (l : List ℕ). SaysStart move.net (pieces_of l) s) line one.says) other.says in
      one_lines_verdict Routers (started (state_in t) move) tt network 3 other.nodes v w
      (subst (λ (p : List Phase). IsLinesVerdict Routers (started (state_in p) move) 3 other.nodes v) start
      (subst (λ (l : List (List ℕ)). IsLinesVerdict Routers (started (state_in s) move) 3 l v) nodes one.holds))
      other.holds

  one_started : (lines : List (List ℕ)) (v w : Verdict) → IsStartedVerdict move lines v → IsStartedVerdict move lines w → v ≡ w
  one_started lines v w (no_start_line none) (no_start_line also) = refl
  one_started lines v w (no_start_line none) (wrong_start_line y ys k is low) = no_line y ys lines none is
  one_started lines v w (no_start_line none) (from_start t b other) = no_line other.line other.nodes lines none other.lines_are
  one_started lines v w (wrong_start_line x xs j is low) (no_start_line none) = no_line x xs lines none is
  one_started lines v w (wrong_start_line x xs j is low) (wrong_start_line y ys k also least) =
      ap (λ (kind : WrongKind). Wrong 2 kind) (one_wrong_start lines x y xs ys j k is also low least)
  one_started lines v w (wrong_start_line x xs j is low) (from_start t b other) = absurd (never_wrong lines x xs j t _ is low other)
  one_started lines v w (from_start s a one) (no_start_line none) = no_line one.line one.nodes lines none one.lines_are
  one_started lines v w (from_start s a one) (wrong_start_line y ys k is low) = absurd (never_wrong lines y ys k s _ is low one)
  one_started lines v w (from_start s a one) (from_start t b other) = one_from_start lines s t a b one other

  pub one_rest : (text : List ℕ) (v w : Verdict) → IsRestVerdict move text v → IsRestVerdict move text w → v ≡ w
  one_rest text v w (no_rest_header none) (no_rest_header also) = refl
  one_rest text v w (no_rest_header none) (behind_rest_header b other) = absurd (none other.lines other.text_is)
  one_rest text v w (behind_rest_header a one) (no_rest_header none) = absurd (none one.lines one.text_is)
  one_rest text v w (behind_rest_header a one) (behind_rest_header b other) =
      one_started other.lines a b
      (subst (λ (l : List (List ℕ)). IsStartedVerdict move l a)
      (later_words rest_tree_header rest_tree_header one.lines other.lines (sym one.text_is ∙ other.text_is)) one.holds)
      other.holds

-- What is printed reads back

three_is_word : IsPrintedWord (codes "3")
three_is_word = above_blank (codes "3") (omega arith) (grind arith)

start_is_word : IsPrintedWord (codes "start")
start_is_word = above_blank (codes "start") (omega arith) (grind arith)

header_is_line : IsPrintedLine rest_tree_header
header_is_line = grind (arith, common_steps, All-cons, All-nil, three_is_word, tree_is_word, words_make_lines)

module _ (net : Network) (network : IsNetwork net) (start : List Phase) where
  words_are : All IsPrintedWord (start_words (names_of net) start)
  words_are =
      All-cons IsPrintedWord (codes "start") (done_words (names_of net) start) start_is_word
      (done_all IsPrintedWord (names_of net) start
      (λ k c within number.
      marked-IsPrintedWord (get_or (names_of net) k []) ((48 + c) ∷ []) 58 (IsWordByte-above_blank 58 (omega arith))
      (name_word net network k (omega (arith, within, many_names net))) (digit_word c)))

  start_pieces : pieces_of (start_line (names_of net) start) ≡ start_words (names_of net) start
  start_pieces = pieces_of-joined (codes "start") (done_words (names_of net) start) words_are

  start_is_line : IsPrintedLine (start_line (names_of net) start)
  start_is_line = (words_make_lines (start_words (names_of net) start) words_are).0

  -- the nodes of a tree, by their lines
  module _ (nodes : List Node) (below : All (NodeBelow (length net)) nodes) (made : All IsPrintedNode nodes) where
    fine : All (IsFine Routers net) nodes
    fine k d within = (below k d within, made k d within)

    pub says_nodes : AllZip (λ (line : List ℕ) (node : Node). SaysNode Routers net (pieces_of line) node) (map (node_line Routers (names_of net)) nodes) nodes
    says_nodes =
        map_says (λ (line : List ℕ) (node : Node). SaysNode Routers net (pieces_of line) node) (node_line Routers (names_of net)) (IsFine Routers net)
        (line_says net network Routers) nodes fine

    pub text_lines_are : line_texts (rest_tree_text (names_of net) start nodes) ≡
        rest_tree_header ∷ start_line (names_of net) start ∷ map (node_line Routers (names_of net)) nodes
    text_lines_are =
        let printed : All IsPrintedLine (map (node_line Routers (names_of net)) nodes) =
        All-map IsPrintedLine (node_line Routers (names_of net)) nodes
        (All-weaker (IsFine Routers net) (λ (node : Node). IsPrintedLine (node_line Routers (names_of net) node)) (line_is net network Routers) nodes fine) in
        (lines_read_back (rest_tree_header ∷ start_line (names_of net) start ∷ map (node_line Routers (names_of net)) nodes)
        (All-cons IsPrintedLine rest_tree_header (start_line (names_of net) start ∷ map (node_line Routers (names_of net)) nodes) header_is_line
        (All-cons IsPrintedLine (start_line (names_of net) start) (map (node_line Routers (names_of net)) nodes) start_is_line printed))).texts

-- nodes that fill a tree have the verdict of their counts
whole_verdict : (move : Migration) (lines : List (List ℕ)) (nodes : List Node) (verdict : Verdict) → AreRightLines Routers move lines nodes [] →
    IsWholeTree nodes verdict → IsLinesVerdict Routers move 3 lines verdict
whole_verdict move lines nodes verdict right whole = grind (arith, common_steps)

pub rest_reads_back : (move : Migration) (start : List Phase) (nodes : List Node) → IsNetwork move.net → length start ≡ length move.net →
    All (NodeBelow (length move.net)) nodes → All IsPrintedNode nodes → IsReadBack move start nodes
rest_reads_back move start nodes network each below made =
    let names : List (List ℕ) = names_of move.net in
    let lines : List (List ℕ) = map (node_line Routers names) nodes in
    let says : SaysStart move.net (pieces_of (start_line names start)) start =
    record { each = each; words_are = start_pieces move.net network start } in
    let said = says_nodes move.net network start nodes below made in
    let text_is = text_lines_are move.net network start nodes below made in
    record {
      reads = record {
        lines = start_line names start ∷ lines;
        text_is = text_is;
        holds = record { line = start_line names start; nodes = lines; lines_are = refl; says = says; holds = said };
      };
      fits = λ verdict fills whole. behind_rest_header verdict (record {
        lines = start_line names start ∷ lines;
        text_is = text_is;
        holds = from_start start verdict (record {
          line = start_line names start;
          nodes = lines;
          lines_are = refl;
          says = says;
          holds = whole_verdict (started (state_in start) move) lines nodes verdict (record { said = said; fills = fills }) whole;
        });
      });
    }
