-- The first line of a text, by which a command tells what kind of file it is.
use Rattle.std.specs.Prelude.{◌≡◌, ℕ, List, Some, slice_get}
use Rattle.net_addr.specs.Lines.{line_texts}

-- the first line of a text is this one
abbrev pub BeginsWith : List ℕ → List ℕ → Type 0
BeginsWith first text = slice_get (line_texts text) 0 ≡ Some first
