-- Sections as they are printed: a line of words at indent 0, and lines of words with a blank before each. What they read as.
use Rattle.std.specs.Prelude.{◌≡◌, ℕ, ◌+◌, Bool, true, false, not, ◌&&◌, List, [], ◌∷◌, length, map, codes, nat_eq, nat_lt, slice_index}
use Rattle.std.specs.List.{list_all}
use Rattle.printed_lines.specs.Words.{joined, spaced}
use Rattle.printed_lines.specs.Texts.{text_of}
use Rattle.ios_lines.specs.Words.{Word, word_at, says, lacks, is_printable}
use Rattle.ios_lines.specs.Heads.{head_of}
use Rattle.ios_sections.specs.TextLines.{TextLine}
use Rattle.ios_sections.specs.Sections.{section_with}
use Rattle.ios_sections.specs.JoinedLines.{sections_further_on}
use Rattle.ios_reader.specs.InsertedLines.{IsLineBlock}

-- a word has bytes, all of them printable
abbrev pub is_fine : Word → Bool
is_fine word = nat_lt 0 (length word) && list_all is_printable word

-- a line has words, none of which says that the line is more than a line of a section
abbrev pub is_fine_line : List Word → Bool
is_fine_line words =
    list_all is_fine words && not (lacks words 0) && not (nat_eq (slice_index (word_at words 0) 0) 33) && not (says words 0 (codes "banner"))

-- the section as it is printed
abbrev pub section_text : List Word → List (List Word) → List ℕ
section_text head bodies = text_of (joined head ∷ map spaced bodies)

-- a line of this number and indent, by its bytes and its words
abbrev pub line_with : ℕ → ℕ → List ℕ → List Word → TextLine
line_with number indent bytes words = record { number = number; indent = indent; bytes = bytes; words = words }

-- lines of words with a blank before each, numbered from here
abbrev pub section_lines_from : ℕ → List (List Word) → List TextLine
section_lines_from n [] = []
section_lines_from n (words ∷ more) = line_with n 1 (spaced words) words ∷ section_lines_from (n + 1) more

-- a printed section may stand before an `end` line, and behind so many lines it reads as one section with just its lines
pub record ReadsAsSection (head : List Word) (bodies : List (List Word)) : Type 0 where
  pub fits : IsLineBlock (section_text head bodies)
  pub says : (count : ℕ) →
      sections_further_on count (section_text head bodies) ≡ section_with (head_of head) (count + 1) (section_lines_from (count + 2) bodies) ∷ []

-- that is so of each whose lines are fine and whose first line is no `end` line
abbrev pub SectionsReadBack : Type 0
SectionsReadBack =
    (head : List Word) (bodies : List (List Word)) → is_fine_line head ≡ true → says head 0 (codes "end") ≡ false →
    list_all is_fine_line bodies ≡ true → ReadsAsSection head bodies
