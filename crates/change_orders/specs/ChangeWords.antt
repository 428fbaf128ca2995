-- Single changes as a file names them: the first change of router R1 is `R1:1`, its second one `R1:2`.
use Rattle.std.specs.Prelude.{◌≡◌, ℕ, ◌+◌, ◌*◌, ◌<◌, ◌≤◌, List, [], ◌∷◌, ◌++◌, length}
use Rattle.net_model.specs.Lookups.{IsNamed}
use Rattle.net_model.specs.Network.{Network}

-- the word of change c of a router: its name, a colon (58) and the digit c
abbrev pub change_word : List ℕ → ℕ → List ℕ
change_word name c = name ++ 58 ∷ (48 + c) ∷ []

-- c is the number of a change of a router: 1 or 2
abbrev pub IsChangeNumber : ℕ → Type 0
IsChangeNumber c = (1 ≤ c) × (c ≤ 2)

-- a word is of the form of a change's, whether or not there is a router of its name
pub record IsChangeWord (word : List ℕ) : Type 0 where
  pub name : List ℕ
  pub some : 0 < length name
  pub number : ℕ
  pub is_number : IsChangeNumber number
  pub word_is : word ≡ change_word name number

-- a word names the change of this item: change c of router u is the item 2u + c - 1
pub record NamesItem (net : Network) (word : List ℕ) (item : ℕ) : Type 0 where
  pub router : ℕ
  pub name : List ℕ
  pub named : IsNamed net name router
  pub number : ℕ
  pub is_number : IsChangeNumber number
  pub word_is : word ≡ change_word name number
  pub item_is : item + 1 ≡ 2 * router + number
