-- The lines of a text by their numbers and their bytes, and how many they are.
use Rattle.std.proofs.lemmas.Grind.{common_steps}
use Rattle.std.proofs.Common.{◌≡◌, ℕ, suc, ◌+◌, ◌≤◌, Bool, cond, List, [], ◌∷◌, length, map, refl, ap, ◌∙◌, arith}
use Rattle.std.specs.Str.Lines.{strip_carriage_return}
use Rattle.std.proofs.lemmas.List.{length-map}
use Rattle.std.proofs.lemmas.List.Splits.{length-slice_split}
use Rattle.std.proofs.lemmas.List.Sums.{count_by-le-length}
use Rattle.net_addr.specs.declared.line.Line.{Line}
use Rattle.net_addr.specs.Spans.{bytes_of}
use Rattle.net_addr.specs.Lines.{without_empty_last, line_pieces, lines_of, line_texts}
use Rattle.net_addr.proofs.PlacedPieces.{text_lines-texts}
use Rattle.ios_sections.specs.TextLines.{text_line, lines_in}
use Rattle.ios_sections.specs.TellingLines.{lines_from_number}

abbrev texts_in : List ℕ → List Line → List (List ℕ)
texts_in text lines = map (λ (line : Line). bytes_of text line.span) lines

lines_numbered : (text : List ℕ) (number start : ℕ) (pieces : List (List ℕ)) →
    texts_in text (lines_of number start pieces) ≡ map strip_carriage_return pieces →
    map (text_line text) (lines_of number start pieces) ≡ lines_from_number number (map strip_carriage_return pieces)
lines_numbered text number start [] texts = refl
lines_numbered text number start (piece ∷ more) texts =
    let later : texts_in text (lines_of (number + 1) (start + length piece + 1) more) ≡ map strip_carriage_return more = cc in
    let rest : map (text_line text) (lines_of (number + 1) (start + length piece + 1) more)
    ≡ lines_from_number (number + 1) (map strip_carriage_return more) = lines_numbered text (number + 1) (start + length piece + 1) more later in
    cc

-- the lines of a text are numbered from 1
pub text_numbered : (text : List ℕ) → lines_in text ≡ lines_from_number 1 (line_texts text)
text_numbered text = lines_numbered text 1 0 (line_pieces text) (text_lines-texts text)

-- ---- how many they are ----

last_choice : (t : Bool) (piece : List ℕ) → length (cond t [] (piece ∷ [])) ≤ 1
last_choice t piece = grind (arith, common_steps)

fewer : (pieces : List (List ℕ)) → length (without_empty_last pieces) ≤ length pieces
fewer [] = omega arith
fewer (piece ∷ []) = last_choice _ piece
fewer (piece ∷ next ∷ more) = let h : length (without_empty_last (next ∷ more)) ≤ length (next ∷ more) = fewer (next ∷ more) in omega arith

-- a text has at most one line more than bytes
pub line_count : (text : List ℕ) → length (line_texts text) ≤ length text + 1
line_count text = grind (arith, common_steps, count_by-le-length, fewer, length-map, length-slice_split)

numbered_length : (number : ℕ) (texts : List (List ℕ)) → length (lines_from_number number texts) ≡ length texts
numbered_length number [] = refl
numbered_length number (bytes ∷ more) = ap suc (numbered_length (number + 1) more)

pub texts_count : (text : List ℕ) → length (lines_in text) ≡ length (line_texts text)
texts_count text = ap length (text_numbered text) ∙ numbered_length 1 (line_texts text)
