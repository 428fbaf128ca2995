-- A closed tree refutes: a good ranking would keep the pairs of one of its leaves, which no ranking keeps.
use Rattle.std.proofs.lemmas.Grind.{common_steps}
use Rattle.std.proofs.Common.{ℕ, ◌≤◌, inl, inr, List, [], ◌∷◌, ◌++◌, length, map, arith, subst, sym, refl, ap, ◌∙◌}
use Rattle.std.specs.List.{All, Contains, flat_map}
use Rattle.std.proofs.lemmas.List.{length-map, get_or-map}
use Rattle.std.proofs.lemmas.List.Elements.{All-head, All-tail, Contains-append_left, Contains-append_right, Contains-push_cases}
use Rattle.order_core.specs.Pairs.{Pair, IsPath, Leads}
use Rattle.order_core.specs.Rankings.{KeepsPair, KeepsPairs}
use Rattle.order_core.specs.Turns.{old_routers, new_routers, child_pairs}
use Rattle.order_search.specs.Trees.{Place, Real, Fill, places_below, IsTreeNode, IsCycle, IsVisited, IsClosedTree}
use Rattle.order_search.specs.Meanings.{Good, Meaning}
use Rattle.order_search.specs.Answers.{IsRefutation}
use Rattle.order_search.specs.Places.{IsFoundNode}
use Rattle.order_search.specs.Laws.{IsDecisive}
use Rattle.order_search.proofs.Fills.{Fill-weaker}
use Rattle.order_search.proofs.RankFacts.{rank_rises}
use Rattle.order_search.proofs.Turned.{in_front}
use Rattle.order_search.specs.declared.tree.Node.{Node}
use Rattle.order_search.specs.declared.tree.Node.TheVariants.{Branch, Leaf, Unvisited}

Contains-map : {X Y : Type 0} (f : X → Y) (xs : List X) (x : X) → Contains xs x → Contains (map f xs) (f x)
Contains-map f xs x has = (has.0, omega (arith, has.1, length-map xs f), get_or-map f xs has.0 x (f x) has.1 ∙ ap f has.2)

-- each Old turn's router with each New turn's router is a child's pair
Contains-grid : (us vs : List ℕ) (u v : ℕ) → Contains us u → Contains vs v →
    Contains {X = Pair} (flat_map (λ (a : ℕ). map (λ (b : ℕ). (a, b)) vs) us) (u, v)
Contains-grid [] vs u v has_u has_v = absurd (omega (arith, has_u.1))
Contains-grid (w ∷ us) vs u v has_u has_v =
    let row : ℕ → List Pair = λ a. map (λ (b : ℕ). (a, b)) vs in
    let pair : Pair = (u, v) in
    elim (in_front w u us has_u) [
      | inl same ↦ Contains-append_left (row w) (flat_map row us) pair
          (subst (λ (a : ℕ). Contains (row a) pair) (sym same) (Contains-map {Y = Pair} (λ b. (u, b)) vs v has_v))
      | inr later ↦ Contains-append_right (row w) (flat_map row us) pair (Contains-grid us vs u v later has_v)
    ]

-- a router of a cycle leads to itself
pub cycle_leads : (pairs : List Pair) (cycle : List ℕ) → IsCycle pairs cycle → (u : ℕ) × Leads pairs u u
cycle_leads pairs cycle is = (is.first, round is.others is.some is.round)
  where
    round : (others : List ℕ) → 1 ≤ length others → IsPath pairs is.first (others ++ is.first ∷ []) is.first → Leads pairs is.first is.first
    round [] some onward = absurd (omega (arith, some))
    round (w ∷ others) some onward = record { next = w; path = others ++ is.first ∷ []; first = onward.0; onward = onward.1 }

-- so no ranking keeps the pairs of a cycle
no_cycle_kept : (ranks : List ℕ) (pairs : List Pair) (cycle : List ℕ) → IsCycle pairs cycle → KeepsPairs ranks pairs → ⊥
no_cycle_kept ranks pairs cycle is keeps =
    let leads = cycle_leads pairs cycle is in
    omega (arith, rank_rises ranks pairs keeps leads.0 leads.0 leads.1)

-- ranks that keep a place's pairs and one pair more keep those of the place below
keeps_more : (ranks : List ℕ) (place : Place) (u v : ℕ) → KeepsPairs ranks place → KeepsPair ranks (u, v) →
    KeepsPairs ranks (place ++ (u, v) ∷ [])
keeps_more ranks place u v keeps more p has = grind (arith, common_steps, Contains-push_cases)

-- a good ranking keeps the pairs of no place that visited nodes fill
none_kept : (good : Good) (real : Real) (base : List Pair) → IsDecisive good real base → (ranks : List ℕ) → good ranks →
    (places : List Place) (nodes : List Node) → Fill (IsTreeNode real) places nodes [] → All IsVisited nodes →
    (place : Place) → Contains places place → KeepsPairs ranks place → ⊥
none_kept good real base laws ranks is_good places [] fill visited place has keeps =
    omega (arith, has.1, ap (λ (ps : List Place). length ps) fill)
none_kept good real base laws ranks is_good [] (node ∷ nodes) fill visited place has keeps = absurd fill
none_kept good real base laws ranks is_good (p ∷ places) (Branch address turns ∷ nodes) fill visited place has keeps =
    let below : List Place = places_below p (Branch address turns) in
    let later = All-tail IsVisited (Branch address turns) nodes visited in
    let rest = none_kept good real base laws ranks is_good (below ++ places) nodes fill.1 later in
    elim (in_front p place places has) [
      | inr behind ↦ rest place (Contains-append_right below places place behind) keeps
      | inl same ↦
          let some = laws.decides address turns ranks fill.0.0 fill.0.1 is_good in
          let child : Place = p ++ (some.old, some.new) ∷ [] in
          let pair = Contains-grid (old_routers turns) (new_routers turns) some.old some.new some.is_old some.is_new in
          let in_below = Contains-map (λ (q : Pair). p ++ q ∷ []) (child_pairs turns) (some.old, some.new) pair in
          let here : KeepsPairs ranks p = subst (λ (q : Place). KeepsPairs ranks q) (sym same) keeps in
          rest child (Contains-append_left below places child in_below) (keeps_more ranks p some.old some.new here some.keeps)
    ]
none_kept good real base laws ranks is_good (p ∷ places) (Leaf cycle ∷ nodes) fill visited place has keeps =
    let later = All-tail IsVisited (Leaf cycle) nodes visited in
    elim (in_front p place places has) [
      | inl same ↦ no_cycle_kept ranks p cycle fill.0 (subst (λ (q : Place). KeepsPairs ranks q) (sym same) keeps)
      | inr behind ↦ none_kept good real base laws ranks is_good places nodes fill.1 later place behind keeps
    ]
none_kept good real base laws ranks is_good (p ∷ places) (Unvisited ∷ nodes) fill visited place has keeps =
    absurd (All-head IsVisited Unvisited nodes visited)

-- where a tree is closed and its branches are real, no ranking is good
pub closed_tree_refutes : (good : Good) (real : Real) (base : List Pair) → IsDecisive good real base → (nodes : List Node) →
    IsClosedTree (IsTreeNode real) base nodes → (ranks : List ℕ) → ¬ good ranks
closed_tree_refutes good real base laws nodes closed ranks is_good =
    let keeps = laws.keeps_base ranks is_good in
    none_kept good real base laws ranks is_good (base ∷ []) nodes closed.tree closed.visited base (0, omega arith, refl) keeps

-- so it is where the search answers so
pub refutation_refutes : (m : Meaning) → IsDecisive m.good m.real m.base → (budget : ℕ) (tree : List Node) → IsRefutation m budget tree →
    (ranks : List ℕ) → ¬ m.good ranks
refutation_refutes m laws budget tree found =
    let fill = Fill-weaker (IsFoundNode m) (IsTreeNode m.real) (λ place node is. is.is_node) (m.base ∷ []) [] tree found.closed.tree in
    closed_tree_refutes m.good m.real m.base laws tree (record { tree = fill; visited = found.closed.visited })
