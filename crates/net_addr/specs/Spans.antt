-- Parts of a text, by where they begin and end.
use Rattle.std.specs.Prelude.{ℕ, ◌≤◌, Bool, nat_lt, List, length, slice_range}
use Rattle.net_addr.specs.declared.span.Span.{Span}

-- a span lies in a text where it doesn't end before it begins, nor behind the end of the text
pub record LiesIn (text : List ℕ) (span : Span) : Type 0 where
  pub ordered : span.start ≤ span.stop
  pub inside : span.stop ≤ length text

-- the bytes of a text from the start of a span on, up to its stop, which is no part of it
abbrev pub bytes_of : List ℕ → Span → List ℕ
bytes_of text span = slice_range text span.start span.stop

-- whether a span holds a byte
abbrev pub has_bytes : Span → Bool
has_bytes span = nat_lt span.start span.stop
