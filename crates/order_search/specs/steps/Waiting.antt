-- The places that wait to be visited, told by the pairs that are assumed now.
use Rattle.std.specs.Prelude.{◌≡◌, ◌≢◌, ℕ, ◌<◌, ◌≤◌, List, [], ◌∷◌, ◌++◌, length, map, take, slice_index_or}
use Rattle.order_core.specs.Pairs.{Pair, Leads, HasNoCycle, AreBelow}
use Rattle.order_core.specs.Turns.{child_pairs}
use Rattle.order_search.specs.Trees.{Place}
use Rattle.order_core.specs.declared.turn.Turn.{Turn}
use Rattle.order_search.specs.declared.child.Child.{Child}

-- what is assumed now, and of how many routers
pub record Standing : Type 0 where
  pub routers : ℕ
  pub pairs : Place

-- the child of a branch that assumes so many pairs
abbrev pub child_of : ℕ → Pair → Child
child_of above p = record { before = p.0; after = p.1; above = above }

-- the children that wait when a place has become a branch with these turns: its own, and those that waited
abbrev pub children_below : List Pair → List Turn → List Child → List Child
children_below pairs turns children = map (child_of (length pairs)) (child_pairs turns) ++ children

-- the pairs of a child's place: the first ones of those assumed now, and its own
abbrev pub place_at : List Pair → Child → Place
place_at pairs c = take c.above pairs ++ (c.before, c.after) ∷ []

-- the places of some children, the next one first; each stands no lower than those after it
abbrev pub places_of : List Pair → List Child → List Place
places_of pairs [] = []
places_of pairs (c ∷ children) = place_at pairs c ∷ places_of (take c.above pairs) children

-- a child's pair is of two routers below n, and isn't implied by the pairs above it, the base among them
pub record IsChild (n : ℕ) (base pairs : List Pair) (c : Child) : Type 0 where
  pub base_in : length base ≤ c.above
  pub within : c.above ≤ length pairs
  pub before_in : c.before < n
  pub after_in : c.after < n
  pub differ : c.before ≢ c.after
  pub fresh : ¬ Leads (take c.above pairs) c.before c.after

-- each of the children is one under the pairs that are left when it is visited
abbrev pub AreChildren : ℕ → List Pair → List Pair → List Child → Type 0
AreChildren n base pairs [] = Unit {0}
AreChildren n base pairs (c ∷ children) = IsChild n base pairs c × AreChildren n base (take c.above pairs) children

-- pairs of routers below n without a cycle: first those of the base, and then pairs none of which is implied by those
-- before it
pub record AreFresh (n : ℕ) (base pairs : List Pair) : Type 0 where
  pub few : length base ≤ n
  pub long : length base ≤ length pairs
  pub begins : take (length base) pairs ≡ base
  pub below : AreBelow n pairs
  pub acyclic : HasNoCycle pairs
  pub fresh : (k : ℕ) → length base ≤ k → k < length pairs → ¬ Leads (take k pairs) (slice_index_or pairs k (0, 0)).0
      (slice_index_or pairs k (0, 0)).1

-- fresh pairs, and the children that wait under them
pub record IsUnder (n : ℕ) (base pairs : List Pair) (children : List Child) : Type 0 where
  pub fresh : AreFresh n base pairs
  pub waiting : AreChildren n base pairs children
