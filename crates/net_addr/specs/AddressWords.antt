-- Addresses and masks as words of four octets joined by dots.
use Rattle.std.specs.Prelude.{◌≡◌, ℕ, ◌+◌, ◌-◌, ◌*◌, ◌%◌, ◌^◌, ◌≤◌, List, ◌∷◌, ◌++◌, length}
use Rattle.net_addr.specs.Addresses.{first_bits}
use Rattle.net_addr.specs.Numerals.{decimal_value, IsNumeralUpTo}

-- an octet: one to three digits, of value at most 255
pub record IsOctet (word : List ℕ) : Type 0 where
  pub numeral : IsNumeralUpTo 255 word (decimal_value word)
  pub short : length word ≤ 3

-- an address: four octets joined by dots (46 is `.`), of which the first one counts most
pub record IsAddressWord (word : List ℕ) (a : ℕ) : Type 0 where
  pub first : List ℕ
  pub second : List ℕ
  pub third : List ℕ
  pub fourth : List ℕ
  pub joined : word ≡ first ++ 46 ∷ (second ++ 46 ∷ (third ++ 46 ∷ fourth))
  pub first_octet : IsOctet first
  pub second_octet : IsOctet second
  pub third_octet : IsOctet third
  pub fourth_octet : IsOctet fourth
  pub value : a ≡ 2 ^ 24 * decimal_value first + 2 ^ 16 * decimal_value second + 2 ^ 8 * decimal_value third + decimal_value fourth

-- a mask (RFC 4632, section 3.1): its first `len` bits are ones, at least one, and the others are zeros
pub record IsMask (a len : ℕ) : Type 0 where
  pub some : 1 ≤ len
  pub most : len ≤ 32
  pub ones : first_bits len a ≡ 2 ^ len - 1
  pub zeros : a % 2 ^ (32 - len) ≡ 0

-- an address that is a mask stands for its count of ones
pub record IsMaskWord (word : List ℕ) (len : ℕ) : Type 0 where
  pub address : ℕ
  pub written : IsAddressWord word address
  pub mask : IsMask address len
