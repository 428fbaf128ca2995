-- What is odd about the lines of a text that count.
use Rattle.std.specs.Prelude.{ℕ, Bool, ◌&&◌, ◌||◌, List, drop, filter, map, nat_eq, nat_lt}
use Rattle.std.specs.List.{list_all, list_any, prefix_len}
use Rattle.net_addr.specs.Blanks.{is_blank}
use Rattle.ios_sections.specs.TellingLines.{has_lines}
use Rattle.ios_sections.specs.TextLines.{TextLine, opens_section}

-- a control byte: one below 32, or 127
abbrev pub is_control : ℕ → Bool
is_control b = nat_lt b 32 || nat_eq b 127

-- bytes without the blanks that they begin with
abbrev pub behind_blanks : List ℕ → List ℕ
behind_blanks bytes = drop (prefix_len is_blank bytes) bytes

-- a line holds a control byte behind the blanks that it begins with
abbrev pub is_odd : TextLine → Bool
is_odd line = list_any is_control (behind_blanks line.bytes)

-- the numbers of those that do, in the order of the text
abbrev pub odd_numbers : List TextLine → List ℕ
odd_numbers lines = map (λ (line : TextLine). line.number) (filter is_odd lines)

-- a line that begins with `interface` or `router` is there, and no line is indented
abbrev pub is_flat : List TextLine → Bool
is_flat lines = list_any has_lines lines && list_all opens_section lines
