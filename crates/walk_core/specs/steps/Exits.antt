-- First hops from a root of links, by the distances from their ends.
use Rattle.std.specs.Prelude.{◌≡◌, ℕ, ◌+◌, ◌^◌, ◌<◌, ◌≤◌, ◌≢◌, ◌↔◌, ◌⊎◌, ◌∷◌, ◌++◌, List, [], Option, Some, None, Contains, length, slice_index_or}
use Rattle.std.specs.List.Sorted.{IsStrictlyIncreasing}
use Rattle.walk_core.specs.BestOffers.{total_with}
use Rattle.walk_core.specs.Distances.{distance_at}
use Rattle.walk_core.specs.declared.exits.Exit.{Exit}
use Rattle.walk_core.specs.declared.exits.TwoExits.{TwoExits}
use Rattle.walk_core.specs.declared.outlets.Outlet.{Outlet}
use Rattle.walk_core.specs.steps.Adding.{SomeLeadsTo}
use Rattle.walk_core.specs.steps.BestOver.{IsTotal}
use Rattle.walk_core.specs.steps.SegmentWalks.{AreOutlets, Mesh}

-- the exit is over this port, by the rows of distances
pub record IsExit (rows : List (List (Option ℕ))) (outlet : Outlet) (exit : Exit) : Type 0 where
  pub leads : outlet.to ≡ Some exit.to
  pub costs : exit.cost ≡ outlet.cost
  pub row : exit.row.now ≡ slice_index_or rows exit.to []

-- the exit is over one of the ports
pub record HasExit (rows : List (List (Option ℕ))) (outlets : List Outlet) (exit : Exit) : Type 0 where
  pub outlet : Outlet
  pub among : Contains outlets outlet
  pub is : IsExit rows outlet exit

-- one of the exits is over this port
pub record IsOverOne (rows : List (List (Option ℕ))) (exits : List Exit) (outlet : Outlet) : Type 0 where
  pub exit : Exit
  pub among : Contains exits exit
  pub is : IsExit rows outlet exit

-- the exits are over these ports, each of them
pub record AreExits (rows : List (List (Option ℕ))) (outlets : List Outlet) (exits : List Exit) : Type 0 where
  pub each : (exit : Exit) → Contains exits exit → HasExit rows outlets exit
  pub every : (outlet : Outlet) → Contains outlets outlet → IsOverOne rows exits outlet

-- the exits are over the ports of the root, each of them
pub record AreTwoExits (rows : List (List (Option ℕ))) (outlets : List Outlet) (root : ℕ) (exits : TwoExits) : Type 0 where
  pub from : exits.root ≡ root
  pub less : exits.one.to < exits.other.to
  pub one : HasExit rows outlets exits.one
  pub other : HasExit rows outlets exits.other
  pub every : (outlet : Outlet) → Contains outlets outlet → IsExit rows outlet exits.one ⊎ IsExit rows outlet exits.other

-- the exits are over all ports of their root
pub record HasTwoExits (mesh : Mesh) (exits : TwoExits) : Type 0 where
  pub outlets : List Outlet
  pub listed : AreOutlets mesh.segments exits.root (length mesh.segments) outlets
  pub are : AreTwoExits mesh.rows outlets exits.root exits

-- what it costs to go to v over an exit
abbrev pub cost_over : Exit → ℕ → Option ℕ
cost_over exit v = total_with (distance_at exit.row.now v) exit.cost

-- the distances from the end of an exit leave room for one more arc
abbrev pub FitsOver : Exit → Type 0
FitsOver exit = (v d : ℕ) → distance_at exit.row.now v ≡ Some d → d + 2 ^ 32 < 2 ^ 64

-- the exit leads to h, and v is as far as over it
abbrev pub LeadsAsFar : ℕ → Option ℕ → Exit → ℕ → Type 0
LeadsAsFar v distance exit h = IsTotal (distance_at exit.row.now v) exit.cost distance × (exit.to ≡ h)

-- one of the exits does
abbrev pub OneLeadsAsFar : List Exit → ℕ → Option ℕ → ℕ → Type 0
OneLeadsAsFar exits v distance h = SomeLeadsTo (LeadsAsFar v distance) exits h

-- there is a cost, and where there is another, it is no less
pub record IsNoFarther (cost rival : Option ℕ) : Type 0 where
  pub value : ℕ
  pub is : cost ≡ Some value
  pub least : (other : ℕ) → rival ≡ Some other → value ≤ other

-- the exit leads to h, and over the other one v is no nearer
abbrev pub LeadsOver : Exit → Exit → ℕ → ℕ → Type 0
LeadsOver exit other v h = IsNoFarther (cost_over exit v) (cost_over other v) × (exit.to ≡ h)

-- v isn't the root, and one of the exits does
pub record LeadsOut (exits : TwoExits) (v h : ℕ) : Type 0 where
  pub apart : v ≢ exits.root
  pub over : LeadsOver exits.one exits.other v h ⊎ LeadsOver exits.other exits.one v h

-- the list of two numbers, of which either may be missing
abbrev pub list_of_two : Option ℕ → Option ℕ → List ℕ
list_of_two None None = []
list_of_two None (Some other) = other ∷ []
list_of_two (Some one) None = one ∷ []
list_of_two (Some one) (Some other) = one ∷ other ∷ []

-- the list of those to which the exits lead comes behind the others
pub record AddsHops (exits : TwoExits) (v : ℕ) (old new : List (List ℕ)) : Type 0 where
  pub list : List ℕ
  pub added : new ≡ old ++ list ∷ []
  pub exact : (h : ℕ) → Contains list h ↔ LeadsOut exits v h
  pub ascending : exits.one.to < exits.other.to → IsStrictlyIncreasing list
