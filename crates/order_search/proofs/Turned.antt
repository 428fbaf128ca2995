-- Each pair of a place that nodes leave open is of the base, or a branch of the nodes turns it.
use Rattle.std.proofs.Common.{◌≡◌, ℕ, zero, suc, ◌<◌, ◌⊎◌, inl, inr, List, [], ◌∷◌, ◌++◌, length, get_or, map, arith, subst, refl}
use Rattle.std.specs.List.{All, Contains, flat_map}
use Rattle.std.proofs.lemmas.List.Elements.{All-nil, All-head, All-tail, All-append, All-map, All-weaker, All-contains_itself, Contains-push_cases}
use Rattle.order_core.specs.Pairs.{Pair}
use Rattle.order_core.specs.Turns.{old_routers, new_routers, child_pairs}
use Rattle.order_core.specs.declared.turn.Turn.{Turn}
use Rattle.order_search.specs.Trees.{Place, NodeFact, Fill, places_below, IsOfBranch}
use Rattle.order_search.specs.declared.tree.Node.{Node}
use Rattle.order_search.specs.declared.tree.Node.TheVariants.{Branch, Leaf, Unvisited}

-- each pair of the place is of the base, or turned in the nodes
abbrev pub AreTurned : List Pair → List Node → Place → Type 0
AreTurned base nodes place = (pair : Pair) → Contains place pair → Contains base pair ⊎ IsOfBranch nodes pair

-- an element of a list with one more in front
pub in_front : {X : Type 0} (y x : X) (xs : List X) → Contains (y ∷ xs) x → (y ≡ x) ⊎ Contains xs x
in_front y x xs has = by_place has.0 has.1 has.2
  where
    by_place : (k : ℕ) → k < length (y ∷ xs) → get_or (y ∷ xs) k x ≡ x → (y ≡ x) ⊎ Contains xs x
    by_place zero in' e = inl e
    by_place (suc k) in' e = inr (k, omega (arith, in'), e)

-- what holds of each Old router with each New router holds of each child's pair
pub All-grid : (P : Pair → Type 0) (us vs : List ℕ) → ((u v : ℕ) → Contains us u → Contains vs v → P (u, v)) →
    All P (flat_map (λ (u : ℕ). map (λ (v : ℕ). (u, v)) vs) us)
All-grid P [] vs each = All-nil P
All-grid P (u ∷ us) vs each =
    let row : All (λ (v : ℕ). P (u, v)) vs = All-weaker (Contains vs) (λ (v : ℕ). P (u, v)) (λ v has. each u v (0, (omega arith), refl) has) vs
    (All-contains_itself vs) in
    All-append P (map (λ (v : ℕ). (u, v)) vs) (flat_map (λ (u : ℕ). map (λ (v : ℕ). (u, v)) vs) us) (All-map P (λ (v : ℕ). (u, v)) vs row)
    (All-grid P us vs (λ w v has_w has_v. each w v (suc has_w.0, (omega (arith, has_w.1)), has_w.2) has_v))

-- the children of a branch assume a pair that it turns
turned_children : (base : List Pair) (all : List Node) (place : Place) (address : ℕ) (turns : List Turn) → Contains all (Branch address turns) →
    AreTurned base all place →
    All (AreTurned base all) (places_below place (Branch address turns))
turned_children base all place address turns has above =
    All-map (AreTurned base all) (λ (p : Pair). place ++ p ∷ []) (child_pairs turns)
    (All-grid (λ (p : Pair). AreTurned base all (place ++ p ∷ [])) (old_routers turns) (new_routers turns)
    (λ u v is_old is_new pair in_child. elim (Contains-push_cases place (u, v) pair in_child) [
      | inl old ↦ above pair old
      | inr same ↦ inr (subst (λ (p : Pair). IsOfBranch all p) same (record { address = address; turns = turns; branch = has; old = is_old; new = is_new }))
    ]))

pub AreTurned-fill : (P : NodeFact) (base : List Pair) (all : List Node) (places left : List Place) (nodes : List Node) →
    ((node : Node) → Contains nodes node → Contains all node) →
    All (AreTurned base all) places → Fill P places nodes left → All (AreTurned base all) left
AreTurned-fill P base all places left [] within turned fill = subst (λ (ps : List Place). All (AreTurned base all) ps) fill turned
AreTurned-fill P base all [] left (node ∷ nodes) within turned fill = absurd fill
AreTurned-fill P base all (place ∷ places) left (node ∷ nodes) within turned fill =
    AreTurned-fill P base all (places_below place node ++ places) left nodes (λ other has. within other (suc has.0, omega (arith, has.1), has.2))
    (All-append (AreTurned base all) (places_below place node) places (below node (within node (0, omega arith, refl)))
    (All-tail (AreTurned base all) place places turned))
    fill.1
  where
    below : (node : Node) → Contains all node → All (AreTurned base all) (places_below place node)
    below (Branch address turns) has = turned_children base all place address turns has (All-head (AreTurned base all) place places turned)
    below (Leaf cycle) has = All-nil (AreTurned base all)
    below Unvisited has = All-nil (AreTurned base all)
