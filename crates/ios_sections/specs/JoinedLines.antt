-- The lines of texts joined end to end, and the sections behind the last `end` line.
use Rattle.std.specs.Prelude.{ℕ, ◌+◌, Bool, false, List, [], ◌∷◌, map, fold, codes}
use Rattle.ios_lines.specs.Words.{says}
use Rattle.ios_sections.specs.TextLines.{TextLine, lines_in, banner_after, counted_lines, is_end, rest_after}
use Rattle.ios_sections.specs.Sections.{sections_among, sections_from_first}
use Rattle.ios_sections.specs.declared.section.Section.{Section}

-- a line, so many lines further on
abbrev pub further_on : ℕ → TextLine → TextLine
further_on count line = record { number = count + line.number; indent = line.indent; bytes = line.bytes; words = line.words }

-- whether a banner is open behind some lines
abbrev pub is_in_banner : List TextLine → Bool
is_in_banner lines = fold banner_after false lines

-- the first word of the line is `banner`
abbrev pub begins_banner : TextLine → Bool
begins_banner line = says line.words 0 (codes "banner")

-- the first of some lines is an `end` line
abbrev pub begins_with_end : List TextLine → Bool
begins_with_end [] = false
begins_with_end (line ∷ _) = is_end line

-- the lines of a text that count and stand behind its last `end` line
abbrev pub open_lines : List ℕ → List TextLine
open_lines text = rest_after [] (counted_lines (lines_in text))

-- what the sections behind the last `end` line of a text say
abbrev pub open_sections : List ℕ → List Section
open_sections text = sections_from_first (open_lines text)

-- what the sections of a text say that stands so many lines further on
abbrev pub sections_further_on : ℕ → List ℕ → List Section
sections_further_on count text = sections_among (counted_lines (map (further_on count) (lines_in text)))
