-- The places of a text: where its lines begin, what stands between two places, and its lines one by one.
use Rattle.std.specs.Prelude.{ℕ, ◌-◌, ◌==◌, List, [], ◌∷◌, Option, Some, None, drop, if◌then◌else◌, length, slice_get, take}
use Rattle.net_addr.specs.Lines.{text_lines}
use Rattle.net_addr.specs.declared.line.Line.{Line}

-- where a line begins, and the end of the text where there is no such line
abbrev pub begins_at : ℕ → Option Line → ℕ
begins_at ends None = ends
begins_at ends (Some line) = line.span.start

-- where the line of this number begins
abbrev pub start_of : List ℕ → ℕ → ℕ
start_of text number = begins_at (length text) (slice_get (text_lines text) (number - 1))

-- what stands between two places of a text
abbrev pub between : List ℕ → ℕ → ℕ → List ℕ
between text from to = take (to - from) (drop from text)

-- a byte more in front of the first of some lines
abbrev pub with_byte : ℕ → List (List ℕ) → List (List ℕ)
with_byte b [] = (b ∷ []) ∷ []
with_byte b (raw ∷ raws) = (b ∷ raw) ∷ raws

-- the lines of a text, each with its line feed (10); the last one may have none
abbrev pub raw_lines : List ℕ → List (List ℕ)
raw_lines [] = []
raw_lines (b ∷ bytes) = if b == 10 then (10 ∷ []) ∷ raw_lines bytes else with_byte b (raw_lines bytes)
