-- The steps of the search: at a place, after a branch, at the next place, and what is found at the end.
use Rattle.std.proofs.lemmas.Grind.{common_steps}
use Rattle.std.proofs.Common.{◌≡◌, ◌≢◌, ℕ, zero, suc, ◌+◌, ◌-◌, ◌*◌, ◌/◌, ◌≤◌, inl, List, [], ◌∷◌, ◌++◌}
use Rattle.std.proofs.Common.{length, vec_len, Some, take, map, replicate, arith, subst, sym, refl, ap, ◌∙◌}
use Rattle.std.specs.List.{All}
use Rattle.std.specs.Vec.{with_items}
use Rattle.std.proofs.lemmas.List.{with_items_is, take_all, length_push, length-take-le}
use Rattle.std.proofs.lemmas.List.Elements.{All-nil, All-cons, All-head, All-tail, All-append, All-pop, All-push, All-take}
use Rattle.std.proofs.lemmas.List.Elements.{Contains-append_left}
use Rattle.std.proofs.Math.Seq.{take-append_seam}
use Rattle.order_core.specs.Pairs.{Pair, Leads}
use Rattle.order_core.specs.Turns.{child_pairs}
use Rattle.order_core.specs.declared.turn.Turn.{Turn}
use Rattle.precedence_set.specs.Layers.{IsChain, IsLayeredChain}
use Rattle.precedence_set.proofs.LayerFacts.{layers_fewest, layers_unique}
use Rattle.order_search.specs.Trees.{Place, Fill, IsVisited, HasOneChild, branch_count}
use Rattle.order_search.specs.Meanings.{Meaning, Break, IsBase}
use Rattle.order_search.specs.Places.{IsFoundNode, IsLayered}
use Rattle.order_search.specs.Answers.{found_waves, AreFoundWaves, IsRefutation, IsSpent, IsFound}
use Rattle.order_search.specs.steps.Waiting.{Standing, child_of, place_at, places_of, children_below, AreChildren, AreFresh, IsUnder}
use Rattle.order_search.specs.steps.Leaves.{IsLeaf, GrowsLeaves}
use Rattle.order_search.specs.steps.Steps.{IsSearching, IsAsked, EndsBy, EndsOrGoesOn, IsEndOf}
use Rattle.order_search.specs.declared.child.Child.{Child}
use Rattle.order_search.specs.declared.ending.Ending.{Ending}
use Rattle.order_search.specs.declared.ending.Ending.TheVariants.{Good, Spent as Stops, Closed}
use Rattle.order_search.specs.declared.tree.Node.{Node}
use Rattle.order_search.specs.declared.tree.Node.TheVariants.{Branch, Leaf, Unvisited}
use Rattle.order_search.specs.declared.found.Found.{Found}
use Rattle.order_search.specs.declared.stand.Stand.{Stand}
use Rattle.order_search.proofs.Fills.{Fill-push, Fill-append, Fill-weaker, branch_count-append, branch_count-unvisited}
use Rattle.order_search.proofs.FreshPairs.{AreFresh-base, fresh_bound}
use Rattle.order_search.proofs.RankFacts.{MayBeChild, kids_may}
use Rattle.order_search.proofs.Turned.{AreTurned, AreTurned-fill}

-- the place has become a branch, and the next child waits
pub record IsBranched (m : Meaning) (budget : ℕ) (s : Stand) : Type 0 where
  pub fills : Fill (IsFoundNode m) (m.base ∷ []) s.tree (places_of s.held.pairs s.waiting)
  pub visited : All IsVisited s.tree
  pub under : IsUnder m.size m.base s.held.pairs s.waiting
  pub counted : branch_count s.tree ≡ s.branches
  pub within : s.branches ≤ budget
  pub line : All HasOneChild s.tree → (c : Child) × (s.waiting ≡ c ∷ []) × (c.above + 1 ≡ length m.base + s.branches)

-- at first it stands at the place that assumes the base alone
pub IsSearching-begin : (m : Meaning) (budget : ℕ) (s : Stand) → IsBase m.size m.base → s.held.routers ≡ m.size → vec_len s.ranks ≡ m.size →
    s.held.pairs ≡ m.base → s.tree ≡ [] → s.waiting ≡ [] → s.branches ≡ 0 → IsSearching m budget s
IsSearching-begin m budget s is routers room begun bare none first = record {
  routers = routers;
  room = room;
  fills = rw (bare, none) (ap (λ (place : Place). place ∷ []) (sym begun));
  visited = subst (λ (nodes : List Node). All IsVisited nodes) (sym bare) (All-nil IsVisited);
  under = record {
    fresh = subst (λ (xs : List Pair). AreFresh m.size m.base xs) (sym begun) (AreFresh-base m.size m.base is);
    waiting = subst (λ (cs : List Child). AreChildren m.size m.base s.held.pairs cs) (sym none) tt;
  };
  counted = ap branch_count bare ∙ sym first;
  within = omega (arith, first);
  line = λ all. (none, omega (arith, first, ap (λ (xs : List Pair). length xs) begun));
}

-- what holds of all nodes holds of the first ones, and of the last one
All-front : (P : Node → Type 0) (nodes more : List Node) → All P (nodes ++ more) → All P nodes
All-front P nodes more all = subst (λ (xs : List Node). All P xs) (take-append_seam nodes more) (All-take P (length nodes) (nodes ++ more) all)

All-last : (P : Node → Type 0) (nodes : List Node) (node : Node) → All P (nodes ++ node ∷ []) → P node
All-last P nodes node all = (All-pop P (nodes ++ node ∷ []) nodes (Some node) refl all).1

-- a chain of a place's layers is the chain of its layered list
chain_of : (n : ℕ) (pairs : List Pair) (ranks chain : List ℕ) → IsLayered n pairs ranks → IsLayeredChain n pairs chain → IsChain pairs ranks chain
chain_of n pairs ranks chain layered chained =
    subst (λ (layers : List ℕ). IsChain pairs layers chain) (layers_unique n pairs chained.layers ranks layered.below chained.are_layers layered.layers)
    chained.is_chain

-- a ranking that the search found good
waves_are_found : (m : Meaning) (budget : ℕ) (s : Stand) (chain : List ℕ) → IsAsked m budget s → m.good s.ranks.items →
    IsLayeredChain m.size s.held.pairs chain →
    AreFoundWaves m budget (found_waves s.ranks.items s.held.pairs chain (s.tree ++ Unvisited ∷ []))
waves_are_found m budget s chain asked is_good chained =
    let searching = asked.searching in
    let layered = asked.layered in
    let pairs : List Pair = s.held.pairs in
    let is_chain = chain_of m.size pairs s.ranks.items chain layered chained in
    let trail : List Node = s.tree ++ Unvisited ∷ [] in
    let all = AreTurned-fill (IsFoundNode m) m.base trail (m.base ∷ []) (pairs ∷ places_of pairs s.waiting) s.tree
    (λ node has. Contains-append_left s.tree (Unvisited ∷ []) node has)
    (All-cons (AreTurned m.base trail) m.base [] (λ pair has. inl has) (All-nil (AreTurned m.base trail))) searching.fills in
    record {
      is_good = is_good;
      leads = record {
        before = s.tree;
        later = places_of pairs s.waiting;
        ends = refl;
        stands = record { visited = searching.visited; fills = searching.fills };
        layered = layered;
      };
      within = omega (arith, branch_count-append s.tree (Unvisited ∷ []), searching.counted, searching.within);
      chained = is_chain;
      fewest = λ others ranking keeps. layers_fewest m.size pairs s.ranks.items others layered.below layered.layers ranking.each keeps;
      neighbors = λ k lt. (is_chain.back k lt).holds.before;
      turned = All-head (AreTurned m.base trail) pairs (places_of pairs s.waiting) all;
    }

length-places_of : (pairs : List Pair) (children : List Child) → length (places_of pairs children) ≡ length children
length-places_of pairs [] = refl
length-places_of pairs (c ∷ children) = ap (λ (k : ℕ). suc k) (length-places_of (take c.above pairs) children)

half : (b x : ℕ) → b + b ≤ x → b ≤ x / 2
half b x le = omega arith

-- half of n(n-1)
half_square : (n b : ℕ) → b + b + n ≤ n * n → b ≤ n * (n - 1) / 2
half_square zero b le = omega (arith, le)
half_square (suc m) b le =
    let square : suc m * suc m ≡ suc m * m + suc m = omega arith in
    let back : suc m - 1 ≡ m = omega arith in
    subst (λ (k : ℕ). b ≤ suc m * k / 2) (sym back) (half b (suc m * m) (omega (arith, le, square)))

-- the search stops where the budget is spent
stop_is_spent : (m : Meaning) (budget : ℕ) (s : Stand) → IsAsked m budget s → ¬ m.good s.ranks.items → s.branches ≡ budget →
    IsSpent m budget (s.tree ++ replicate (length s.waiting + 1) Unvisited)
stop_is_spent m budget s asked bad all =
    let count : ℕ = length s.waiting + 1 in
    let searching = asked.searching in
    let e : count ≡ suc (length (places_of s.held.pairs s.waiting)) = omega (arith, length-places_of s.held.pairs s.waiting) in
    record {
      stopped = record {
        before = s.tree;
        place = s.held.pairs;
        later = places_of s.held.pairs s.waiting;
        ranks = s.ranks.items;
        ends = ap (λ (k : ℕ). s.tree ++ replicate k Unvisited) e;
        stands = record { visited = searching.visited; fills = searching.fills };
        layered = asked.layered;
        bad = bad;
        spent = omega (arith, branch_count-append s.tree (replicate count Unvisited), branch_count-unvisited count, searching.counted, all);
      };
      path = λ one.
          let line = searching.line (All-front HasOneChild s.tree (replicate count Unvisited) one) in
          half_square m.size budget (fresh_bound m.size m.base s.held.pairs budget searching.under.fresh (omega (arith, line.1, all)));
    }

-- the children of a branch, at the pairs that it assumes
places_of-kids : (pairs : List Pair) (above : ℕ) (kids : List Pair) (children : List Child) → above ≡ length pairs →
    places_of pairs (map (child_of above) kids ++ children) ≡ map (λ (p : Pair). pairs ++ p ∷ []) kids ++ places_of pairs children
places_of-kids pairs above [] children all = refl
places_of-kids pairs above (p ∷ kids) children all =
    let whole : take above pairs ≡ pairs = take_all above pairs (omega (arith, all)) in
    ap (λ (xs : List Pair). (xs ++ p ∷ []) ∷ places_of xs (map (child_of above) kids ++ children)) whole
    ∙ ap (λ (ps : List Place). (pairs ++ p ∷ []) ∷ ps) (places_of-kids pairs above kids children all)

AreChildren-kids : (n : ℕ) (base pairs : List Pair) (above : ℕ) (kids : List Pair) (children : List Child) → length base ≤ length pairs →
    above ≡ length pairs → All (MayBeChild n pairs) kids →
    AreChildren n base pairs children → AreChildren n base pairs (map (child_of above) kids ++ children)
AreChildren-kids n base pairs above [] children long all may are = are
AreChildren-kids n base pairs above (p ∷ kids) children long all may are =
    let whole : take above pairs ≡ pairs = take_all above pairs (omega (arith, all)) in
    let here = All-head (MayBeChild n pairs) p kids may in (
      record {
        base_in = omega (arith, long, all);
        within = omega (arith, all);
        before_in = here.0;
        after_in = here.1;
        differ = here.2;
        fresh = subst (λ (xs : List Pair). ¬ Leads xs p.0 p.1) (sym whole) here.3;
      },
      subst (λ (xs : List Pair). AreChildren n base xs (map (child_of above) kids ++ children)) (sym whole)
          (AreChildren-kids n base pairs above kids children long all (All-tail (MayBeChild n pairs) p kids may) are),
    )

-- the only pair of a list of one
only : (kids : List Pair) → length kids ≡ 1 → (p : Pair) × (kids ≡ p ∷ [])
only [] one = absurd (omega (arith, one))
only (p ∷ []) one = (p, refl)
only (p ∷ q ∷ kids) one = absurd (omega (arith, one))

-- the place is visited: its layered list is known
pub IsAsked-visited : (m : Meaning) (budget : ℕ) (s : Stand) (held : Standing) (ranks : List ℕ) → IsSearching m budget s → held ≡ s.held →
    length ranks ≡ m.size → IsLayered s.held.routers s.held.pairs ranks →
    IsAsked m budget (record s { held = held; ranks = with_items s.ranks ranks }) × ((with_items s.ranks ranks).items ≡ ranks)
IsAsked-visited m budget s held ranks is same long layered = grind (arith, common_steps, with_items_is)

-- the place becomes a branch
pub branch_is_made : (m : Meaning) (budget : ℕ) (s : Stand) (ranks : List ℕ) (address : ℕ) (turns told_turns : List Turn) →
    IsAsked m budget s × (s.ranks.items ≡ ranks) → Break m ranks address told_turns → turns ≡ told_turns → s.branches ≢ budget →
    IsBranched m budget (record s {
      tree = s.tree ++ Branch address turns ∷ [];
      waiting = children_below s.held.pairs turns s.waiting;
      branches = s.branches + 1;
    })
branch_is_made m budget s ranks address turns told_turns (asked, written) breaks same more =
    let searching = asked.searching in
    let told = subst (λ (ts : List Turn). Break m s.ranks.items address ts) (sym same)
    (subst (λ (xs : List ℕ). Break m xs address told_turns) (sym written) breaks) in
    let pairs : List Pair = s.held.pairs in
    let above : ℕ = length pairs in
    let node : IsFoundNode m pairs (Branch address turns) = record {
      is_node = (told.is_real, told.both);
      earned = record { ranks = s.ranks.items; layered = asked.layered; pick = told.pick };
      least_cycle = tt;
    } in
    record {
      fills = subst (λ (ps : List Place). Fill (IsFoundNode m) (m.base ∷ []) (s.tree ++ Branch address turns ∷ []) ps)
          (sym (places_of-kids pairs above (child_pairs turns) s.waiting refl))
          (Fill-push (IsFoundNode m) (m.base ∷ []) (places_of pairs s.waiting) pairs s.tree (Branch address turns) searching.fills node);
      visited = All-push IsVisited s.tree (Branch address turns) searching.visited tt;
      under = record {
        fresh = searching.under.fresh;
        waiting = AreChildren-kids m.size m.base pairs above (child_pairs turns) s.waiting searching.under.fresh.long refl
            (kids_may m pairs s.ranks.items address turns asked.layered told) searching.under.waiting;
      };
      counted = omega (arith, branch_count-append s.tree (Branch address turns ∷ []), searching.counted);
      within = omega (arith, more, searching.within);
      line = λ one.
          let before = searching.line (All-front HasOneChild s.tree (Branch address turns ∷ []) one) in
          let kid = only (child_pairs turns) (All-last HasOneChild s.tree (Branch address turns) one) in (
            child_of above kid.0,
            ap (λ (kids : List Pair). map (child_of above) kids ++ s.waiting) kid.1 ∙ ap (λ (cs : List Child). child_of above kid.0 ∷ cs) before.0,
            omega (arith, before.1),
          );
    }

-- leaves are visited nodes, and no branches
leaves_are : (a b : List Place) (leaves : List Node) → Fill IsLeaf a leaves b → All IsVisited leaves × (branch_count leaves ≡ 0)
leaves_are a b [] fill = (All-nil IsVisited, refl)
leaves_are [] b (node ∷ leaves) fill = absurd fill
leaves_are (p ∷ a) b (Branch address turns ∷ leaves) fill = absurd fill.0
leaves_are (p ∷ a) b (Leaf cycle ∷ leaves) fill =
    let later = leaves_are a b leaves fill.1 in
    (All-cons IsVisited (Leaf cycle) leaves tt later.0, omega (arith, later.1))
leaves_are (p ∷ a) b (Unvisited ∷ leaves) fill = absurd fill.0

-- a leaf is a node that the search makes
IsFoundNode-leaf : (m : Meaning) (place : Place) (node : Node) → IsLeaf place node → IsFoundNode m place node
IsFoundNode-leaf m place (Branch address turns) leaf = absurd leaf
IsFoundNode-leaf m place (Leaf cycle) leaf = record { is_node = leaf.0; earned = tt; least_cycle = leaf.1 }
IsFoundNode-leaf m place Unvisited leaf = absurd leaf

-- where one place is open and leaves open another one, there is no leaf
one_place : (place q : Place) (qs : List Place) (leaves : List Node) → Fill IsLeaf (place ∷ []) leaves (q ∷ qs) → (q ≡ place) × (qs ≡ [])
one_place place q qs [] fill = (cc, cc)
one_place place q qs (Branch address turns ∷ leaves) fill = absurd fill.0
one_place place q qs (Leaf cycle ∷ []) fill = let none = fill.1 in (cc, cc)
one_place place q qs (Leaf cycle ∷ node ∷ leaves) fill = absurd fill.1
one_place place q qs (Unvisited ∷ leaves) fill = absurd fill.0

no_children : (pairs : List Pair) (children : List Child) → places_of pairs children ≡ [] → children ≡ []
no_children pairs [] none = refl
no_children pairs (c ∷ children) none = cc

-- what a branch's nodes are once leaves have followed
grown_from : (m : Meaning) (budget : ℕ) (b : Stand) (nodes : List Node) (after : List Place) → IsBranched m budget b →
    GrowsLeaves b.tree nodes (places_of b.held.pairs b.waiting) after →
    Fill (IsFoundNode m) (m.base ∷ []) nodes after × All IsVisited nodes × (branch_count nodes ≡ b.branches)
grown_from m budget b nodes after branched grown =
    let before : List Place = places_of b.held.pairs b.waiting in (
      subst (λ (xs : List Node). Fill (IsFoundNode m) (m.base ∷ []) xs after) (sym grown.grown)
          (Fill-append (IsFoundNode m) (m.base ∷ []) before after b.tree grown.leaves branched.fills
          (Fill-weaker IsLeaf (IsFoundNode m) (IsFoundNode-leaf m) before after grown.leaves grown.fills)),
      subst (λ (xs : List Node). All IsVisited xs) (sym grown.grown)
          (All-append IsVisited b.tree grown.leaves branched.visited (leaves_are before after grown.leaves grown.fills).0),
      ap branch_count grown.grown ∙ branch_count-append b.tree grown.leaves
          ∙ omega (arith, (leaves_are before after grown.leaves grown.fills).1, branched.counted),
    )

-- the next child that closes no cycle becomes the place
pub place_is_next : (m : Meaning) (budget : ℕ) (b s : Stand) → IsBranched m budget b →
    GrowsLeaves b.tree s.tree (places_of b.held.pairs b.waiting) (s.held.pairs ∷ places_of s.held.pairs s.waiting) →
    IsUnder m.size m.base s.held.pairs s.waiting → s.branches ≡ b.branches → s.held.routers ≡ m.size → vec_len s.ranks ≡ m.size →
    IsSearching m budget s
place_is_next m budget b s branched grown under same routers room =
    let after : List Place = s.held.pairs ∷ places_of s.held.pairs s.waiting in
    let is = grown_from m budget b s.tree after branched grown in
    record {
      routers = routers;
      room = room;
      fills = is.0;
      visited = is.1;
      under = under;
      counted = is.2 ∙ sym same;
      within = omega (arith, branched.within, same);
      line = λ one.
          let child = branched.line (All-front HasOneChild b.tree grown.leaves (subst (λ (xs : List Node). All HasOneChild xs) grown.grown one)) in
          let c = child.0 in
          let fill : Fill IsLeaf (place_at b.held.pairs c ∷ []) grown.leaves after = subst
          (λ (cs : List Child). Fill IsLeaf (places_of b.held.pairs cs) grown.leaves after) child.1 grown.fills in
          let are : AreChildren m.size m.base b.held.pairs (c ∷ []) = subst
          (λ (cs : List Child). AreChildren m.size m.base b.held.pairs cs) child.1 branched.under.waiting in
          let there = one_place (place_at b.held.pairs c) s.held.pairs (places_of s.held.pairs s.waiting) grown.leaves fill in
          let long = length_push (take c.above b.held.pairs) (c.before, c.after) in
          let above = length-take-le c.above b.held.pairs are.0.within in
          (no_children s.held.pairs s.waiting there.1, omega (arith, ap (λ (xs : List Pair). length xs) there.0, long, above, child.2, same));
    }

-- where no child is left, the tree is closed
pub tree_is_closed : (m : Meaning) (budget : ℕ) (b : Stand) (nodes : List Node) → IsBranched m budget b →
    GrowsLeaves b.tree nodes (places_of b.held.pairs b.waiting) [] → IsRefutation m budget nodes
tree_is_closed m budget b nodes branched grown =
    let is = grown_from m budget b nodes [] branched grown in
    record { closed = record { tree = is.0; visited = is.1 }; within = omega (arith, is.2, branched.within) }

-- what was found where the search ends
pub IsFound-end : (m : Meaning) (budget : ℕ) (s : Stand) (ending : Ending) (found : Found) → EndsBy m budget s ending → IsEndOf s ending found →
    IsFound m budget found
IsFound-end m budget s Good found ends waves =
    let chained = subst (λ (n : ℕ). IsLayeredChain n s.held.pairs waves.chain) ends.0.searching.routers waves.chained in
    subst (λ (f : Found). IsFound m budget f) (sym waves.is) (waves_are_found m budget s waves.chain ends.0 ends.1 chained)
IsFound-end m budget s Stops found ends is =
    subst (λ (f : Found). IsFound m budget f) (sym is) (stop_is_spent m budget s ends.0 ends.1 ends.2)
IsFound-end m budget s Closed found ends is = subst (λ (f : Found). IsFound m budget f) (sym is) ends

-- what an end needs holds where the search ends
pub EndsOrGoesOn-ends : (m : Meaning) (budget : ℕ) (s : Stand) (ending : Ending) → 1 ≤ m.size → m.size ≤ 1000 → EndsBy m budget s ending →
    EndsOrGoesOn s ending
EndsOrGoesOn-ends m budget s Good some few ends =
    let routers = ends.0.searching.routers in (
      omega (arith, some, routers),
      omega (arith, few, routers),
      subst (λ (n : ℕ). IsLayered n s.held.pairs s.ranks.items) (sym routers) ends.0.layered,
    )
EndsOrGoesOn-ends m budget s Stops some few ends = tt
EndsOrGoesOn-ends m budget s Closed some few ends = tt
