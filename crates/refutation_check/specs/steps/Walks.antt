-- The places of a tree that are open, told by the children that are left along one path.
use Rattle.std.specs.Prelude.{◌≡◌, ℕ, ◌<◌, List, [], ◌∷◌, ◌++◌, if◌then◌else◌, map, reverse, All}
use Rattle.order_core.specs.Pairs.{Pair, AreBelow}
use Rattle.order_search.specs.Trees.{Place, places_below}
use Rattle.order_core.specs.declared.turn.Turn.{Turn}
use Rattle.igp_theory.specs.Migrations.{Migration}
use Rattle.order_search.specs.declared.tree.Node.{Node}
use Rattle.order_search.specs.declared.tree.Node.TheVariants.{Branch, Leaf, Unvisited}
use Rattle.plan_theory.specs.Ranked.{size_of}
use Rattle.plan_theory.specs.declared.items.Items.{Items}
use Rattle.refutation_check.specs.TreeLines.{as_said}
use Rattle.refutation_check.specs.TreeTexts.{AreDistinctTurns, AreDistinctRouters}
use Rattle.refutation_check.specs.Verdicts.{IsRightNode}
use Rattle.refutation_check.specs.declared.walk.Walk.TheInside.{Inside}

-- For each branch of a path, the deepest one first, the pairs of its children from the one that is visited on

-- the pairs that are assumed along the path
abbrev pub pairs_along : List (List Pair) → List Pair
pairs_along [] = []
pairs_along ([] ∷ above) = pairs_along above
pairs_along ((p ∷ later) ∷ above) = pairs_along above ++ p ∷ []

-- the places that are visited after those below the path
abbrev pub places_after : List (List Pair) → List Place
places_after [] = []
places_after ([] ∷ above) = places_after above
places_after ((p ∷ later) ∷ above) = map (λ (q : Pair). pairs_along above ++ q ∷ []) later ++ places_after above

-- the place at the end of the path, and the places after it
abbrev pub places_from : List (List Pair) → List Place
places_from path = pairs_along path ∷ places_after path

-- where a tree is read: how many routers there are, and which places are open
pub record PlacesLeft : Type 0 where
  pub routers : ℕ
  pub left : List Place

abbrev pub standing_of : Inside → PlacesLeft
standing_of w = record {
  routers = w.assumed.routers;
  left = if w.is_open then places_from (reverse w.cursors.items) else [];
}

-- the pairs that are assumed are those of the path, and all pairs are of routers
pub record GoesAlong (routers : ℕ) (pairs : List Pair) (cursors : List (List Pair)) : Type 0 where
  pub along : pairs ≡ pairs_along (reverse cursors)
  pub below : All (λ (left : List Pair). AreBelow routers left) cursors

abbrev pub IsHeldWalk : Inside → Type 0
IsHeldWalk w = GoesAlong w.assumed.routers w.assumed.pairs w.cursors.items

-- a node as it is said has two or more distinct routers of so many, or as many distinct numbers
abbrev pub IsRinged : Items → ℕ → Node → Type 0
IsRinged items count (Branch a turns) = All (λ (turn : Turn). turn.router < count) turns × AreDistinctTurns turns
IsRinged items count (Leaf cycle) = All (λ (u : ℕ). u < size_of items count) cycle × AreDistinctRouters cycle
IsRinged items count Unvisited = Unit {0}

-- a node that is said so is right at a place, and its children stand before these other places
pub record IsTakenAt (items : Items) (move : Migration) (place : Place) (left after : List Place) (said : Node) : Type 0 where
  pub node : Node
  pub is_said : as_said items node ≡ said
  pub right : IsRightNode items move place node
  pub below : after ≡ places_below place node ++ left

-- so it is at the first open place
abbrev pub IsTaken : Items → Migration → List Place → List Place → Node → Type 0
IsTaken items move [] after said = ⊥
IsTaken items move (place ∷ left) after said = IsTakenAt items move place left after said
