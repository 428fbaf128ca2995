-- Classes whose target is their longest prefix, and the first ones of their sorts.
use Rattle.std.specs.Prelude.{◌≡◌, ℕ, ◌<◌, List, length, slice_get, Option, Some}
use Rattle.net_addr.specs.Addresses.{Block}
use Rattle.prefix_atoms.specs.Classes.{Classes}

-- the longest prefix of class k is its target, and of this sort
pub record IsPlain (classes : Classes) (of_places : List ℕ) (sort k : ℕ) : Type 0 where
  pub place : ℕ
  pub prefix : Block
  pub top : slice_get classes.tops k ≡ Some (Some place)
  pub stands : slice_get classes.prefixes place ≡ Some prefix
  pub target : slice_get classes.targets k ≡ Some (Some prefix)
  pub sort_is : slice_get of_places place ≡ Some sort

-- another class stands before class k, and the longest prefixes of both are their targets and of one sort
pub record IsEarlierPlain (classes : Classes) (of_places : List ℕ) (k other : ℕ) : Type 0 where
  pub before : other < k
  pub sort : ℕ
  pub is : IsPlain classes of_places sort k
  pub other_is : IsPlain classes of_places sort other

-- of each sort a class among the first n
pub record AreFirstClasses (classes : Classes) (of_places : List ℕ) (n : ℕ) (firsts : List (Option ℕ)) : Type 0 where
  pub below : (sort k : ℕ) → slice_get firsts sort ≡ Some (Some k) → k < n
  pub plain : (sort k : ℕ) → slice_get firsts sort ≡ Some (Some k) → IsPlain classes of_places sort k

-- for each class such another one, where one is known
pub record AreEarlier (classes : Classes) (of_places : List ℕ) (earlier : List (Option ℕ)) : Type 0 where
  pub count : length earlier ≡ length classes.samples
  pub each : (k other : ℕ) → slice_get earlier k ≡ Some (Some other) → IsEarlierPlain classes of_places k other
