-- An address in dotted decimal, octet by octet.
use Rattle.std.specs.Prelude.{◌≡◌, ℕ, List, ◌∷◌, ◌++◌}
use Rattle.net_addr.specs.Numerals.{decimal_value}
use Rattle.net_addr.specs.AddressWords.{IsOctet}

-- the word is an octet of this value, a dot, and the rest
pub record CutsOctet (word : List ℕ) (value : ℕ) (rest : List ℕ) : Type 0 where
  pub part : List ℕ
  pub octet : IsOctet part
  pub value_is : value ≡ decimal_value part
  pub joined : word ≡ part ++ 46 ∷ rest
