-- The words of printed lines. `decimal n` are the decimal digits of a number, without leading zeros.
use Rattle.std.specs.Prelude.{ℕ, ◌/◌, ◌%◌, ◌^◌, ◌<◌, ◌≢◌, List, [], ◌∷◌, ◌++◌, length, slice_index_or, All, decimal}
use Rattle.std.specs.List.{flat_map}
use Rattle.net_addr.specs.Addresses.{Block}

-- a byte of a word is no space (32), no tab (9), no line feed (10) and no carriage return (13)
pub record IsWordByte (b : ℕ) : Type 0 where
  pub no_space : b ≢ 32
  pub no_tab : b ≢ 9
  pub no_feed : b ≢ 10
  pub no_return : b ≢ 13

-- a word is one such byte or more
pub record IsPrintedWord (word : List ℕ) : Type 0 where
  pub some : 0 < length word
  pub bytes : All IsWordByte word

-- words, each after a blank
abbrev pub spaced : List (List ℕ) → List ℕ
spaced words = flat_map (λ word. 32 ∷ word) words

-- words, with one blank between each and the next
abbrev pub joined : List (List ℕ) → List ℕ
joined [] = []
joined (word ∷ more) = word ++ spaced more

-- an address: its four bytes as numbers joined by dots (46)
abbrev pub dotted : ℕ → List ℕ
dotted a =
    decimal (a / 2 ^ 24) ++ 46 ∷ decimal (a / 2 ^ 16 % 256) ++ 46 ∷ decimal (a / 2 ^ 8 % 256) ++ 46 ∷ decimal (a % 256)

-- a router: its name among those of all routers, in the order of their numbers
abbrev pub router_word : List (List ℕ) → ℕ → List ℕ
router_word names u = slice_index_or names u []

-- a prefix: its base, a slash (47) and its length
abbrev pub prefix_word : Block → List ℕ
prefix_word p = dotted p.base ++ 47 ∷ decimal p.len
