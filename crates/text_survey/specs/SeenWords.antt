-- The words of a line as they are printed.
use Rattle.std.specs.Prelude.{ℕ, List, ◌∷◌, ◌++◌, if◌then◌else◌, map}
use Rattle.net_addr.specs.Blanks.{words_in}
use Rattle.printed_lines.specs.Words.{spaced}
use Rattle.text_survey.specs.Oddities.{is_control}
use Rattle.text_survey.specs.ToldLines.{ToldLine}
use Rattle.text_survey.specs.declared.told_line.LinePlace.{LinePlace}
use Rattle.text_survey.specs.declared.told_line.LinePlace.TheVariants.{Top}

-- a control byte can't be seen, and may do harm: it is printed as `?` (63)
abbrev pub seen_byte : ℕ → ℕ
seen_byte b = if is_control b then 63 else b

abbrev pub seen_word : List ℕ → List ℕ
seen_word word = map seen_byte word

-- the words among some bytes
abbrev pub seen_words : List ℕ → List (List ℕ)
seen_words bytes = map seen_word (words_in bytes)

-- the words of a line at a place, each after a blank: those of its section's first line and a colon (58) come first, where it is
-- another one
abbrev pub words_at : LinePlace → List ℕ → List ℕ → List ℕ
words_at Top head own = spaced (seen_words own)
words_at _ head own = spaced (seen_words head) ++ 58 ∷ spaced (seen_words own)

abbrev pub told_words : ToldLine → List ℕ
told_words line = words_at line.place line.head line.own
