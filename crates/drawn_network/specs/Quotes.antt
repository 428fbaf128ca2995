-- Names and labels inside quotes, as DOT reads them, and texts in a label of HTML.
use Rattle.std.specs.Prelude.{◌≡◌, ◌≢◌, ℕ, ◌==◌, ◌||◌, if◌then◌else◌, List, [], ◌∷◌, ◌++◌, codes}
use Rattle.std.specs.List.{flat_map}

-- a byte inside quotes: before a quote (34) and a backslash (92) stands a backslash
abbrev pub escaped_byte : ℕ → List ℕ
escaped_byte b = if (b == 34) || (b == 92) then 92 ∷ b ∷ [] else b ∷ []

-- a text inside quotes
abbrev pub escaped : List ℕ → List ℕ
escaped text = flat_map escaped_byte text

-- a text with its quotes
abbrev pub quoted : List ℕ → List ℕ
quoted text = 34 ∷ (escaped text ++ 34 ∷ [])

-- a byte in a label of HTML: `&` (38), `<` (60) and `>` (62) have names, and a line feed (10) isn't printed
abbrev pub html_byte : ℕ → List ℕ
html_byte b =
    if b == 38 then codes "&amp;" else (if b == 60 then codes "&lt;" else (if b == 62 then codes "&gt;"
    else (if b == 10 then [] else b ∷ [])))

-- a text in a label of HTML
abbrev pub html : List ℕ → List ℕ
html text = flat_map html_byte text

-- how DOT reads on behind an opening quote: a backslash goes with the byte behind it, and the first quote that goes with none
-- is the closing one; `rest` is what stands behind that
pub data ClosesBefore : List ℕ → List ℕ → Type 0 where
  at_quote : (b : ℕ) (rest : List ℕ) → b ≡ 34 → ClosesBefore (b ∷ rest) rest
  past_pair : (b c : ℕ) (text rest : List ℕ) → b ≡ 92 → ClosesBefore text rest → ClosesBefore (b ∷ c ∷ text) rest
  past_byte : (b : ℕ) (text rest : List ℕ) → b ≢ 34 → b ≢ 92 → ClosesBefore text rest → ClosesBefore (b ∷ text) rest
