-- Words as spans of a text.
use Rattle.std.specs.Prelude.{ℕ, ◌<◌, List, length, map, All}
use Rattle.net_addr.specs.Spans.{bytes_of}
use Rattle.net_addr.specs.declared.span.Span.{Span}

-- the bytes of some spans of a text
abbrev pub span_texts : List ℕ → List Span → List (List ℕ)
span_texts text spans = map (bytes_of text) spans

-- no word is empty
abbrev pub AreFilled : List (List ℕ) → Type 0
AreFilled words = All (λ (word : List ℕ). 0 < length word) words
