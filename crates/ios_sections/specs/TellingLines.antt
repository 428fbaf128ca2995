-- The lines that tell something: without the others the sections of a text say the same.
use Rattle.std.specs.Prelude.{ℕ, ◌+◌, Bool, ◌||◌, List, [], ◌∷◌, codes, filter, if◌then◌else◌}
use Rattle.net_addr.specs.Blanks.{indent_of, words_in}
use Rattle.ios_lines.specs.Words.{says}
use Rattle.ios_sections.specs.TextLines.{TextLine, counts, opens_section, outside_banners}
use Rattle.ios_sections.specs.declared.told_lines.TextPlace.{TextPlace}

-- the line opens a section whose lines say something: of an interface, or of a process
abbrev pub has_lines : TextLine → Bool
has_lines line = says line.words 0 (codes "interface") || says line.words 0 (codes "router")

-- a line that may say something at indent 0, or end a configuration
abbrev pub may_tell : TextLine → Bool
may_tell line =
    has_lines line || says line.words 0 (codes "hostname") || says line.words 0 (codes "ip") || says line.words 0 (codes "end")

-- a line tells something: at indent 0 by its first word, else as a line of a section whose lines do
abbrev pub line_tells : Bool → TextLine → Bool
line_tells below line = if opens_section line then may_tell line else below

-- whether the lines below a line are those of a section whose lines say something
abbrev pub open_after : Bool → TextLine → Bool
open_after below line = if opens_section line then has_lines line else below

-- the lines that tell something, where the first ones are of such a section or not
abbrev pub telling_lines : Bool → List TextLine → List TextLine
telling_lines below [] = []
telling_lines below (line ∷ lines) =
    if line_tells below line then line ∷ telling_lines (open_after below line) lines else telling_lines (open_after below line) lines

-- of the lines from a place on those that count and tell something
abbrev pub told_from : TextPlace → List TextLine → List TextLine
told_from place lines = telling_lines place.below (filter counts (outside_banners place.in_banner lines))

-- the line of this number that has these bytes
abbrev pub numbered_line : ℕ → List ℕ → TextLine
numbered_line number bytes = record { number = number; indent = indent_of bytes; bytes = bytes; words = words_in bytes }

-- the lines that have these bytes, numbered from this number on
abbrev pub lines_from_number : ℕ → List (List ℕ) → List TextLine
lines_from_number number [] = []
lines_from_number number (bytes ∷ more) = numbered_line number bytes ∷ lines_from_number (number + 1) more

-- the lines that are left of those that tell something, and how many lines of the text were read and weren't
pub record LinesLeft : Type 0 where
  pub lines : List TextLine
  pub read : ℕ
  pub unread : ℕ
