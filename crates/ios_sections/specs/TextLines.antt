-- The lines of a text that count, the configurations that they make, and their sections.
use Rattle.std.specs.Prelude.{ℕ, ◌+◌, Bool, true, false, not, ◌&&◌, ◌||◌, List, [], ◌∷◌, ◌++◌, map, filter, codes, if◌then◌else◌, nat_eq, nat_lt, slice_index}
use Rattle.std.specs.List.{list_any, before_first}
use Rattle.net_addr.specs.declared.line.Line.{Line}
use Rattle.net_addr.specs.Blanks.{words_in}
use Rattle.net_addr.specs.Spans.{bytes_of}
use Rattle.net_addr.specs.Lines.{text_lines}
use Rattle.ios_lines.specs.Words.{Word, word_at, says, lacks}

-- a line: its number from 1, how many blanks it begins with, its bytes and its words
pub record TextLine : Type 0 where
  pub number : ℕ
  pub indent : ℕ
  pub bytes : List ℕ
  pub words : List Word

-- a line of a text
abbrev pub text_line : List ℕ → Line → TextLine
text_line text line = record {
  number = line.number;
  indent = line.indent;
  bytes = bytes_of text line.span;
  words = words_in (bytes_of text line.span);
}

-- the lines of a text
abbrev pub lines_in : List ℕ → List TextLine
lines_in text = map (text_line text) (text_lines text)

-- `^C` begins here: a caret and a capital C
abbrev pub is_caret : ℕ → List ℕ → Bool
is_caret b after = nat_eq b 94 && nat_eq (slice_index after 0) 67

-- how often bytes hold `^C`
abbrev pub carets : List ℕ → ℕ
carets [] = 0
carets (b ∷ bs) = (if is_caret b bs then 1 else 0) + carets bs

-- the line opens a banner that doesn't end on it
abbrev pub opens_banner : TextLine → Bool
opens_banner line = says line.words 0 (codes "banner") && nat_eq (carets line.bytes) 1

-- the line holds `^C`, which ends a banner
abbrev pub closes_banner : TextLine → Bool
closes_banner line = nat_lt 0 (carets line.bytes)

-- whether a banner is open after a line, as it was open before it or not
abbrev pub banner_after : Bool → TextLine → Bool
banner_after inside line = if inside then not (closes_banner line) else opens_banner line

-- a line outside banners
abbrev pub outside_banner : Bool → TextLine → List TextLine
outside_banner inside line = if inside then [] else line ∷ []

-- the lines outside banners, where a banner is open at first or not; the line that opens one stays
abbrev pub outside_banners : Bool → List TextLine → List TextLine
outside_banners inside [] = []
outside_banners inside (line ∷ lines) = outside_banner inside line ++ outside_banners (banner_after inside line) lines

-- the line has a word, and the first one doesn't begin with `!`
abbrev pub counts : TextLine → Bool
counts line = not (lacks line.words 0) && not (nat_eq (slice_index (word_at line.words 0) 0) 33)

-- the lines that count
abbrev pub counted_lines : List TextLine → List TextLine
counted_lines lines = filter counts (outside_banners false lines)

-- the line is the word `end` at indent 0
abbrev pub is_end : TextLine → Bool
is_end line = nat_eq line.indent 0 && says line.words 0 (codes "end") && lacks line.words 1

-- the lines of a configuration, and the number of the `end` line that ends it
pub record Part : Type 0 where
  pub lines : List TextLine
  pub ends : ℕ

-- the parts that `end` lines end, the first one beginning with these lines
abbrev pub parts_after : List TextLine → List TextLine → List Part
parts_after before [] = []
parts_after before (line ∷ lines) =
    if is_end line then record { lines = before; ends = line.number } ∷ parts_after [] lines
    else parts_after (before ++ line ∷ []) lines

-- the lines after the last `end` line, these lines standing before
abbrev pub rest_after : List TextLine → List TextLine → List TextLine
rest_after before [] = before
rest_after before (line ∷ lines) =
    if is_end line then rest_after [] lines else rest_after (before ++ line ∷ []) lines

-- the configurations of a text
abbrev pub parts_of : List TextLine → List Part
parts_of lines = parts_after [] (counted_lines lines)

-- the line begins something that an `end` line has to end
abbrev pub begins_configuration : TextLine → Bool
begins_configuration line =
    nat_eq line.indent 0
    && (says line.words 0 (codes "hostname") || says line.words 0 (codes "interface") || says line.words 0 (codes "router"))

-- no part at all
abbrev pub is_empty : List Part → Bool
is_empty [] = true
is_empty (_ ∷ _) = false

-- a text without any `end` line, or with an open configuration after the last one
abbrev pub lacks_end : List TextLine → Bool
lacks_end lines = is_empty (parts_of lines) || list_any begins_configuration (rest_after [] (counted_lines lines))

-- the line is at indent 0, and so opens a section
abbrev pub opens_section : TextLine → Bool
opens_section line = nat_eq line.indent 0

-- the indent of the first of some lines
abbrev pub first_indent : List TextLine → ℕ
first_indent [] = 0
first_indent (line ∷ _) = line.indent

-- the lines of a section: of the indented lines that come first, those with the indent of the first one
abbrev pub section_lines : List TextLine → List TextLine
section_lines lines =
    let inside = before_first opens_section lines in
    filter (λ line. nat_eq line.indent (first_indent inside)) inside

-- a section: the line at indent 0 that opens it, and its lines
pub record TextSection : Type 0 where
  pub head : TextLine
  pub body : List TextLine

-- the sections of some lines
abbrev pub sections_of : List TextLine → List TextSection
sections_of [] = []
sections_of (line ∷ lines) =
    if opens_section line then record { head = line; body = section_lines lines } ∷ sections_of lines
    else sections_of lines
