-- Printed lines, and the texts that they make.
use Rattle.std.specs.Prelude.{ℕ, ◌-◌, ◌≢◌, List, [], ◌∷◌, ◌++◌, length, slice_index, All}
use Rattle.std.specs.List.{flat_map}
use Rattle.printed_lines.specs.Words.{spaced}

-- a line as it is printed, without its line feed: it holds no line feed (10) and ends with no carriage return (13)
pub record IsPrintedLine (line : List ℕ) : Type 0 where
  pub no_feed : All (λ b. b ≢ 10) line
  pub no_return : slice_index line (length line - 1) ≢ 13

-- a text: lines, each ended by a line feed
abbrev pub text_of : List (List ℕ) → List ℕ
text_of lines = flat_map (λ line. line ++ 10 ∷ []) lines

-- the text of one line: its first word, then each further one after a blank, then a line feed
abbrev pub line : List ℕ → List (List ℕ) → List ℕ
line first more = first ++ spaced more ++ 10 ∷ []
