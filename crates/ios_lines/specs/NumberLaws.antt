-- The laws of numbers, addresses and masks in configurations: their words are those of every other text.
use Rattle.std.specs.Prelude.{◌≡◌, ◌↔◌, ℕ, Some}
use Rattle.net_addr.specs.AddressWords.{IsAddressWord, IsMaskWord}
use Rattle.net_addr.specs.Numerals.{IsNumeralUpTo}
use Rattle.ios_lines.specs.Words.{Word, number_of, address_of, mask_of}

-- a word of a configuration stands for a number exactly where it is a numeral of that value, at most the greatest one
abbrev pub NumberWordLaw : Type 0
NumberWordLaw = (most n : ℕ) (word : Word) → number_of most word ≡ Some n ↔ IsNumeralUpTo most word n

-- for an address exactly where it is that address in dotted decimal
abbrev pub AddressWordLaw : Type 0
AddressWordLaw = (a : ℕ) (word : Word) → address_of word ≡ Some a ↔ IsAddressWord word a

-- for a mask of so many ones exactly where it is that mask in dotted decimal
abbrev pub MaskWordLaw : Type 0
MaskWordLaw = (len : ℕ) (word : Word) → mask_of word ≡ Some len ↔ IsMaskWord word len
