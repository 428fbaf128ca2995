-- The lines of a text. `slice_split p bytes` are the pieces between the bytes that pass p.
use Rattle.std.specs.Prelude.{ℕ, ◌+◌, Bool, ◌==◌, if◌then◌else◌, List, [], ◌∷◌, length, map}
use Rattle.std.specs.List.{slice_split}
use Rattle.std.specs.Str.Lines.{strip_carriage_return}
use Rattle.net_addr.specs.declared.line.Line.{Line}
use Rattle.net_addr.specs.Blanks.{indent_of}

-- a line feed
abbrev pub is_line_feed : ℕ → Bool
is_line_feed b = b == 10

-- pieces, less the last one where it is empty
abbrev pub without_empty_last : List (List ℕ) → List (List ℕ)
without_empty_last [] = []
without_empty_last (piece ∷ []) = if length piece == 0 then [] else piece ∷ []
without_empty_last (piece ∷ next ∷ more) = piece ∷ without_empty_last (next ∷ more)

-- the pieces of a text between its line feeds: a last piece without a line feed is one where it isn't empty
abbrev pub line_pieces : List ℕ → List (List ℕ)
line_pieces text = without_empty_last (slice_split is_line_feed text)

-- the bytes of the lines: each piece without the one carriage return at its end
abbrev pub line_texts : List ℕ → List (List ℕ)
line_texts text = map strip_carriage_return (line_pieces text)

-- the line with this number, whose piece begins at `start`: its leading blanks are part of its span
abbrev pub line_of : ℕ → ℕ → List ℕ → Line
line_of number start piece = record {
  number = number;
  indent = indent_of (strip_carriage_return piece);
  span = record { start = start; stop = start + length (strip_carriage_return piece) };
}

-- the lines of pieces that follow one another from a place on, with one byte between each and the next
abbrev pub lines_of : ℕ → ℕ → List (List ℕ) → List Line
lines_of number start [] = []
lines_of number start (piece ∷ more) = line_of number start piece ∷ lines_of (number + 1) (start + length piece + 1) more

-- the lines of a text, numbered from 1
abbrev pub text_lines : List ℕ → List Line
text_lines text = lines_of 1 0 (line_pieces text)
