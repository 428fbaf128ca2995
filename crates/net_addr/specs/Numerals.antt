-- Decimal numbers as words of ASCII digits.
use Rattle.std.specs.Prelude.{◌≡◌, ℕ, ◌+◌, ◌-◌, ◌*◌, ◌^◌, ◌<◌, ◌≤◌, List, [], ◌∷◌, length, All}
use Rattle.std.specs.Char.{IsAsciiDigit}

-- the value of digits in base ten: each one times the power of ten for the count of digits after it (48 is `0`)
abbrev pub decimal_value : List ℕ → ℕ
decimal_value [] = 0
decimal_value (digit ∷ after) = (digit - 48) * 10 ^ length after + decimal_value after

-- a word of one or more digits, which may begin with zeros, stands for its value in base ten
pub record IsNumeral (word : List ℕ) (n : ℕ) : Type 0 where
  pub some : 0 < length word
  pub digits : All IsAsciiDigit word
  pub value : decimal_value word ≡ n

-- the same, where the value is at most `most`
pub record IsNumeralUpTo (most : ℕ) (word : List ℕ) (n : ℕ) : Type 0 where
  pub numeral : IsNumeral word n
  pub within : n ≤ most
