-- The lines of texts joined end to end.
use Rattle.std.specs.Prelude.{ℕ, ◌+◌, Bool, true, List, [], ◌∷◌}
use Rattle.net_addr.specs.declared.line.Line.{Line}
use Rattle.net_addr.specs.Lines.{is_line_feed}

-- whether each line of a text is ended by a line feed: the text is empty, or its last byte is one
abbrev pub is_of_whole_lines : List ℕ → Bool
is_of_whole_lines [] = true
is_of_whole_lines (b ∷ []) = is_line_feed b
is_of_whole_lines (b ∷ next ∷ more) = is_of_whole_lines (next ∷ more)

-- a line, so many lines and so many bytes further on
abbrev pub line_further_on : ℕ → ℕ → Line → Line
line_further_on count bytes line = record {
  number = count + line.number;
  indent = line.indent;
  span = record { start = bytes + line.span.start; stop = bytes + line.span.stop };
}
