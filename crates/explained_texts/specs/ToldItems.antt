-- Texts that tell something of each item of a list, one after the other.
use Rattle.std.specs.Prelude.{◌≡◌, ℕ, List, [], ◌∷◌, ◌++◌}

-- a text tells what T says of each item of a list, in the order of the list
pub data AreTold {A : Type 0} (T : A → List ℕ → Type 0) : List A → List ℕ → Type 0 where
  none_told : AreTold T [] []
  first_told : (x : A) (rest : List A) (told text : List ℕ) → T x told → AreTold T rest text → AreTold T (x ∷ rest) (told ++ text)

-- ---- texts that grow by it ----

-- a text with what T says of an item more
pub record TellsMore {A : Type 0} (T : A → List ℕ → Type 0) (x : A) (text longer : List ℕ) : Type 0 where
  pub more : List ℕ
  pub told : T x more
  pub longer_is : longer ≡ text ++ more

-- a text with what it says of some items more
pub record TellsAll {A : Type 0} (T : A → List ℕ → Type 0) (items : List A) (text longer : List ℕ) : Type 0 where
  pub more : List ℕ
  pub told : AreTold T items more
  pub longer_is : longer ≡ text ++ more
