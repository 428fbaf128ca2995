-- The lines behind the header of a text.
use Rattle.std.proofs.lemmas.Grind.{common_steps}
use Rattle.std.proofs.Common.{◌≡◌, ℕ, ◌+◌, ◌-◌, ◌^◌, ◌<◌, ◌≤◌, Bool, cond, eqb, List, [], ◌∷◌}
use Rattle.std.proofs.Common.{length, arith, sym, ap, ◌∙◌, subst}
use Rattle.std.specs.List.{All}
use Rattle.std.proofs.lemmas.List.Elements.{All-tail}
use Rattle.std.proofs.lemmas.List.Splits.{length-slice_split}
use Rattle.std.proofs.lemmas.List.Sums.{count_by-le-length}
use Rattle.net_addr.specs.Lines.{line_texts, text_lines, without_empty_last}
use Rattle.net_addr.specs.Spans.{bytes_of, LiesIn}
use Rattle.net_addr.specs.declared.line.Line.{Line}
use Rattle.net_addr.proofs.JoinedFacts.{lines_of-length}
use Rattle.refutation_check.specs.steps.Reading.{StandBehind, line_bytes}

one_few : (empty : Bool) (piece : List ℕ) → length (cond empty [] (piece ∷ [])) ≤ 1
one_few empty piece = grind (arith, common_steps)

pieces_few : (pieces : List (List ℕ)) → length (without_empty_last pieces) ≤ length pieces
pieces_few [] = omega arith
pieces_few (piece ∷ []) = one_few (eqb (length piece) 0) piece
pieces_few (piece ∷ next ∷ more) = omega (arith, pieces_few (next ∷ more))

-- a text has no more lines than bytes, and one
lines_few : (text : List ℕ) → length (text_lines text) ≤ length text + 1
lines_few text = grind (arith, common_steps, count_by-le-length, length-slice_split, lines_of-length, pieces_few)

-- the lines after a first line that is the header
pub stand_behind : (text header : List ℕ) (lines entries : List Line) (first : Line) → line_bytes text lines ≡ line_texts text →
    lines ≡ first ∷ entries → bytes_of text first.span ≡ header → StandBehind (header ∷ []) text entries
stand_behind text header lines entries first texts parts is = sym texts ∙ ap (line_bytes text) parts ∙ ap (λ h. h ∷ line_bytes text entries) is

pub entries_inside : (text : List ℕ) (lines entries : List Line) (first : Line) → All (λ (line : Line). LiesIn text line.span) lines →
    lines ≡ first ∷ entries → All (λ (line : Line). LiesIn text line.span) entries
entries_inside text lines entries first inside parts =
    All-tail (λ (line : Line). LiesIn text line.span) first entries (subst (All (λ (line : Line). LiesIn text line.span)) parts inside)

-- there are few of them
pub entries_few : (text : List ℕ) (lines entries : List Line) (first : Line) → length text < 2 ^ 26 → lines ≡ text_lines text →
    lines ≡ first ∷ entries →
    length entries + 2 < 2 ^ 32 - 2
entries_few text lines entries first short exact parts = omega (arith, lines_few text, ap length (sym exact ∙ parts), short)

-- where no line is counted there is none
pub none_left : (lines : List Line) → length lines ≡ 0 → lines ≡ []
none_left lines none = grind (arith, common_steps)
