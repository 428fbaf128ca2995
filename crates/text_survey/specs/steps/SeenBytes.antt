-- The words of a line as they are printed, byte by byte.
use Rattle.std.specs.Prelude.{ℕ, Bool, not, ◌&&◌, List, [], ◌∷◌, ◌++◌, if◌then◌else◌, nat_eq}
use Rattle.net_addr.specs.Blanks.{is_blank}
use Rattle.text_survey.specs.Oddities.{is_control}
use Rattle.text_survey.specs.SeenWords.{seen_byte}

-- what is printed of a byte, inside a word or not: nothing of a blank, and the first byte of a word behind a space (32)
abbrev pub seen_at : Bool → ℕ → List ℕ
seen_at inside b = if is_blank b then [] else ((if inside then [] else 32 ∷ []) ++ seen_byte b ∷ [])

-- what is printed of some bytes, the first of which is inside a word or not
abbrev pub seen_from : Bool → List ℕ → List ℕ
seen_from inside [] = []
seen_from inside (b ∷ bs) = seen_at inside b ++ seen_from (not (is_blank b)) bs

-- a byte is printed as it stands, where a word has to begin or not: a space behind a word, or a byte that can be seen
abbrev pub fits : Bool → ℕ → Bool
fits begins b = if nat_eq b 32 then not begins else not (is_control b)

-- some bytes are, and a word is open behind them
abbrev pub are_as_seen : Bool → List ℕ → Bool
are_as_seen begins [] = not begins
are_as_seen begins (b ∷ bs) = fits begins b && are_as_seen (nat_eq b 32) bs
