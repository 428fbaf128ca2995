-- The lines of a section, and names as a set.
use Rattle.std.specs.Prelude.{◌≡◌, ℕ, List, bytes_eq, filter, nat_eq}
use Rattle.std.specs.List.{list_any}
use Rattle.ios_lines.specs.Words.{Word}
use Rattle.ios_sections.specs.TextLines.{TextLine}

-- the lines of this indent
abbrev pub lines_at : ℕ → List TextLine → List TextLine
lines_at indent lines = filter (λ (line : TextLine). nat_eq line.indent indent) lines

-- two lists have the same names
abbrev pub HaveSameNames : List Word → List Word → Type 0
HaveSameNames one other = (name : Word) → list_any (bytes_eq name) one ≡ list_any (bytes_eq name) other
