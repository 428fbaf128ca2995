-- Lists that are put together from parts.
use Rattle.std.specs.Prelude.{◌≡◌, ℕ, List, [], ◌∷◌, ◌++◌, map}
use Rattle.printed_lines.specs.Texts.{text_of}

-- a list is one of these, and behind it one of those
pub record IsInTwo {A : Type 0} (One Other : List A → Type 0) (whole : List A) : Type 0 where
  pub one : List A
  pub other : List A
  pub is_one : One one
  pub is_other : Other other
  pub whole_is : whole ≡ one ++ other

-- a list is put together from parts, one for each of some things, in their order
abbrev pub ArePartsOf : {X A : Type 0} → (X → List A → Type 0) → List X → List A → Type 0
ArePartsOf IsPart [] whole = whole ≡ []
ArePartsOf IsPart (x ∷ xs) whole = IsInTwo (IsPart x) (ArePartsOf IsPart xs) whole

-- a text has a line for each thing of a list that is as Lists says, and no other line
pub record HasLinesFor {A : Type 0} (Lists : List A → Type 0) (line : A → List ℕ) (text : List ℕ) : Type 0 where
  pub items : List A
  pub listed : Lists items
  pub text_is : text ≡ text_of (map line items)
