-- A leaf's cycle, and the places that wait when a child has been visited.
use Rattle.std.proofs.lemmas.Grind.{common_steps}
use Rattle.std.proofs.Common.{◌≡◌, ◌≢◌, ℕ, ◌<◌, ◌≤◌, List, [], ◌∷◌, ◌++◌, length, take, append_assoc, arith, subst, sym}
use Rattle.std.proofs.Common.{refl, ap, ◌∙◌}
use Rattle.std.specs.List.{AllPairs}
use Rattle.std.proofs.lemmas.List.{take-append-le, length-append, length_push, get_or_append_left, get_or_at}
use Rattle.std.proofs.lemmas.List.Elements.{Contains-push}
use Rattle.order_core.specs.Pairs.{Pair, IsPath, Leads, HasNoCycle}
use Rattle.precedence_set.specs.LeastCycle.{GoesBack, IsLeastCycle}
use Rattle.order_core.proofs.DistinctLists.{AllPairs-cons}
use Rattle.order_core.proofs.Paths.{IsPath-more, distinct_path}
use Rattle.order_search.specs.Trees.{Place, IsCycle}
use Rattle.order_search.specs.steps.Waiting.{place_at, places_of, AreChildren}
use Rattle.order_search.specs.steps.Leaves.{IsLeaf, GrowsLeaves}
use Rattle.order_search.specs.declared.tree.Node.{Node}
use Rattle.order_search.specs.declared.tree.Node.TheVariants.{Leaf}
use Rattle.order_search.specs.declared.child.Child.{Child}
use Rattle.order_search.proofs.Fills.{Fill-append, Fill-frame}

-- the way back is a path to u
IsPath-from_GoesBack : (pairs : List Pair) (u x : ℕ) (rest : List ℕ) → GoesBack pairs u x rest → IsPath pairs x (rest ++ u ∷ []) u
IsPath-from_GoesBack pairs u x [] goes = (goes.back.follows, refl)
IsPath-from_GoesBack pairs u x (w ∷ rest) goes = (goes.1.back.follows, IsPath-from_GoesBack pairs u w rest goes.2)

-- distinct numbers, the last of them put first
distinct_turned : (u : ℕ) (xs : List ℕ) → AllPairs (λ a b. a ≢ b) (xs ++ u ∷ []) → AllPairs (λ a b. a ≢ b) (u ∷ xs)
distinct_turned u xs distinct =
    AllPairs-cons (λ (a b : ℕ). a ≢ b) u xs
    (λ k d in' same.
    let last : length xs < length (xs ++ u ∷ []) = omega (arith, length_push xs u) in
    distinct k (length xs) d in' last (get_or_append_left xs (u ∷ []) d k in' ∙ sym same ∙ sym (get_or_at xs u [] d (length xs) refl)))
    (λ i j d lt in' same.
    let i_in : i < length xs = omega (arith, lt, in') in
    let j_in : j < length (xs ++ u ∷ []) = omega (arith, in', length_push xs u) in
    distinct i j d lt j_in (get_or_append_left xs (u ∷ []) d i i_in ∙ same ∙ sym (get_or_append_left xs (u ∷ []) d j in')))

-- the cycle that a pair closes is one of the pairs with it
pub IsCycle-from_least : (pairs : List Pair) (u v : ℕ) (cycle : List ℕ) → HasNoCycle pairs → IsLeastCycle pairs u v cycle →
    IsCycle (pairs ++ (u, v) ∷ []) cycle
IsCycle-from_least pairs u v cycle acyclic least =
    let back = IsPath-from_GoesBack pairs u v least.rest least.goes in
    let distinct : AllPairs (λ a b. a ≢ b) (v ∷ least.rest ++ u ∷ []) = distinct_path pairs acyclic v u (least.rest ++ u ∷ []) back in
    record {
      first = u;
      others = v ∷ least.rest;
      begins = least.begins;
      some = omega arith;
      distinct = subst (λ (xs : List ℕ). AllPairs (λ a b. a ≢ b) xs) (sym least.begins) (distinct_turned u (v ∷ least.rest) distinct);
      round = (Contains-push pairs (u, v), IsPath-more pairs ((u, v) ∷ []) v u (least.rest ++ u ∷ []) back);
    }

-- a leaf under the pairs above it
pub GrowsLeaves-leaf : (old new : List Node) (pairs : List Pair) (c : Child) (cycle : List ℕ) → new ≡ old ++ Leaf cycle ∷ [] →
    HasNoCycle (take c.above pairs) → IsLeastCycle (take c.above pairs) c.before c.after cycle → GrowsLeaves old new (place_at pairs c ∷ []) []
GrowsLeaves-leaf old new pairs c cycle grown acyclic least = record {
  leaves = Leaf cycle ∷ [];
  grown = grown;
  fills = (
    (
      IsCycle-from_least (take c.above pairs) c.before c.after cycle acyclic least,
      record {
        above = take c.above pairs;
        before = c.before;
        after = c.after;
        last = refl;
        least = least;
      },
    ),
    refl,
  );
}

-- one leaf more
pub GrowsLeaves-more : (old mid new : List Node) (a : List Place) (place : Place) (left : List Place) → GrowsLeaves old mid a (place ∷ left) →
    GrowsLeaves mid new (place ∷ []) [] → GrowsLeaves old new a left
GrowsLeaves-more old mid new a place left first second = record {
  leaves = first.leaves ++ second.leaves;
  grown = second.grown ∙ ap (λ (xs : List Node). xs ++ second.leaves) first.grown ∙ append_assoc old first.leaves second.leaves;
  fills =
      Fill-append IsLeaf a (place ∷ left) left first.leaves second.leaves first.fills (Fill-frame IsLeaf (place ∷ []) [] left second.leaves second.fills);
}

-- the pairs above a child stay when others are assumed behind them
take_above : (pairs : List Pair) (more : List Pair) (above : ℕ) → above ≤ length pairs → take above (pairs ++ more) ≡ take above pairs
take_above pairs more above le = take-append-le above pairs more le

pub AreChildren-more : (n : ℕ) (base pairs more : List Pair) (children : List Child) → AreChildren n base pairs children →
    AreChildren n base (pairs ++ more) children
AreChildren-more n base pairs more [] all = tt
AreChildren-more n base pairs more (c ∷ children) all =
    let e = take_above pairs more c.above all.0.within in (
      record {
        base_in = all.0.base_in;
        within = omega (arith, all.0.within, length-append pairs more);
        before_in = all.0.before_in;
        after_in = all.0.after_in;
        differ = all.0.differ;
        fresh = subst (λ (xs : List Pair). ¬ Leads xs c.before c.after) (sym e) all.0.fresh;
      },
      subst (λ (xs : List Pair). AreChildren n base xs children) (sym e) all.1,
    )

pub places_of-more : (n : ℕ) (base pairs more : List Pair) (children : List Child) → AreChildren n base pairs children →
    places_of (pairs ++ more) children ≡ places_of pairs children
places_of-more n base pairs more [] all = refl
places_of-more n base pairs more (c ∷ children) all =
    let e = take_above pairs more c.above all.0.within in
    ap (λ (xs : List Pair). (xs ++ (c.before, c.after) ∷ []) ∷ places_of xs children) e

-- when the first child has become the place, the others wait under its pairs
pub AreChildren-left : (n : ℕ) (base pairs after : List Pair) (all rest : List Child) (c : Child) → AreChildren n base pairs all → all ≡ c ∷ rest →
    after ≡ place_at pairs c →
    AreChildren n base after rest
AreChildren-left n base pairs after all rest c are top is =
    let each : AreChildren n base pairs (c ∷ rest) = subst (λ (xs : List Child). AreChildren n base pairs xs) top are in
    subst (λ (xs : List Pair). AreChildren n base xs rest) (sym is) (AreChildren-more n base (take c.above pairs) ((c.before, c.after) ∷ []) rest each.1)

pub GrowsLeaves-place : (n : ℕ) (base : List Pair) (old mid new : List Node) (a : List Place) (pairs after : List Pair)
    (all rest : List Child) (c : Child) →
    AreChildren n base pairs all → all ≡ c ∷ rest → GrowsLeaves old mid a (places_of pairs all) → after ≡ place_at pairs c → new ≡ mid →
    GrowsLeaves old new a (after ∷ places_of after rest)
GrowsLeaves-place n base old mid new a pairs after all rest c are top grown is same =
    grind (arith, common_steps, places_of-more)

-- when it has become a leaf, they wait under the pairs above it
pub AreChildren-back : (n : ℕ) (base pairs after : List Pair) (all rest : List Child) (c : Child) → AreChildren n base pairs all → all ≡ c ∷ rest →
    after ≡ take c.above pairs →
    AreChildren n base after rest
AreChildren-back n base pairs after all rest c are top is = grind (arith, common_steps)

pub GrowsLeaves-back : (old mid new : List Node) (a : List Place) (pairs after : List Pair) (all rest : List Child) (c : Child) → all ≡ c ∷ rest →
    GrowsLeaves old mid a (places_of pairs all) → after ≡ take c.above pairs → GrowsLeaves mid new (place_at pairs c ∷ []) [] →
    GrowsLeaves old new a (places_of after rest)
GrowsLeaves-back old mid new a pairs after all rest c top grown is leaf =
    let before : GrowsLeaves old mid a (place_at pairs c ∷ places_of (take c.above pairs) rest) = subst
    (λ (xs : List Child). GrowsLeaves old mid a (places_of pairs xs)) top grown in
    subst (λ (xs : List Pair). GrowsLeaves old new a (places_of xs rest)) (sym is)
    (GrowsLeaves-more old mid new a (place_at pairs c) (places_of (take c.above pairs) rest) before leaf)
