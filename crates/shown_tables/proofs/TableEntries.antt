-- The prefixes of a source's tables by their places, and that the entries of a table in the order of these are in order.
use Rattle.std.proofs.Common.{◌≡◌, ◌≢◌, ℕ, zero, suc, ◌<◌, ◌≤◌, List, [], ◌∷◌, length, get_or, All, AllPairs, Contains, IsPermutation}
use Rattle.std.proofs.Common.{◌+◌, ◌++◌, Option, Some, None, take, append-nil, refl, sym, ap, subst, ◌∙◌, ⊎_elim, arith}
use Rattle.std.specs.List.{flat_map}
use Rattle.std.proofs.lemmas.Bool.{cases_lt}
use Rattle.std.proofs.lemmas.List.{take_more}
use Rattle.std.proofs.lemmas.List.Concat.{flat_map-append}
use Rattle.std.proofs.lemmas.List.Elements.{Contains-append_cases, Contains-append_left, Contains-append_right}
use Rattle.std.proofs.lemmas.List.Sorted.{Contains-permutation, IsPermutation-sym}
use Rattle.net_addr.specs.Addresses.{Block, default_prefix}
use Rattle.net_model.proofs.Members.{Contains-first, Contains-flat_map, Contains-in_flat_map, Contains-in_map, Contains-map, Contains-none}
use Rattle.route_core.specs.Rows.{KeptTable, Row, kept_number, listed, listed_row, rows_in}
use Rattle.route_core.specs.Tables.{AreTables, IsListed}
use Rattle.route_core.specs.declared.entry.Entry.{Entry}
use Rattle.route_core.specs.declared.entry.Entry.TheVariants.{Via, Discard}
use Rattle.route_core.proofs.RowLaws.{row_is, row_is_there}
use Rattle.igp_theory.specs.Routes.{HasHopsBelow}
use Rattle.igp_theory.proofs.OrderedLists.{contains_one, pairs_append, pairs_first, pairs_more, pairs_none, pairs_rest}
use Rattle.prefix_atoms.specs.Nested.{StandsBefore}
use Rattle.shown_tables.specs.ShownEntries.{AreInShownOrder, ShownEntry, IsShownBefore, by_dest}
use Rattle.shown_tables.specs.declared.igp.Igp.{Igp}
use Rattle.shown_tables.specs.declared.places.Placed.{Placed}
use Rattle.shown_tables.specs.steps.Places.{AreInPrefixOrder, placed_of, placed_below, shown_at, shown_with}
use Rattle.shown_tables.specs.steps.Shown.{HaveHopsBelow, IsOfShownTable}
use Rattle.shown_tables.proofs.Sorting.{AreApart}

pairs_one : {X : Type 0} (R : X → X → Type 0) (x : X) → AllPairs R (x ∷ [])
pairs_one R x = pairs_more R x [] (λ y inside. absurd (Contains-none y inside)) (pairs_none R)

-- ---- prefixes by their places ----

module _ (igp : Igp) (prefixes : List Block) where
  below_is : (n : ℕ) (one : Placed) → Contains (placed_below igp prefixes n) one →
      (one.place < n) × (one ≡ placed_of igp prefixes one.place)
  below_is zero one inside = absurd (Contains-none one inside)
  below_is (suc n) one inside = ⊎_elim
      (λ earlier. let is = below_is n one earlier in let below = is.0 in (omega (arith, below), is.1))
      (λ last. subst (λ (x : Placed). (x.place < suc n) × (x ≡ placed_of igp prefixes x.place))
      (contains_one (placed_of igp prefixes n) one last) (omega arith, refl))
      (Contains-append_cases (placed_below igp prefixes n) (placed_of igp prefixes n ∷ []) one inside)

  stands_below : (n k : ℕ) → k < n → Contains (placed_below igp prefixes n) (placed_of igp prefixes k)
  stands_below zero k below = absurd (omega (arith, below))
  stands_below (suc n) k below = ⊎_elim
      (λ earlier. Contains-append_left (placed_below igp prefixes n) (placed_of igp prefixes n ∷ []) (placed_of igp prefixes k)
      (stands_below n k earlier))
      (λ past. let same : n ≡ k = omega (arith, below, past) in
      Contains-append_right (placed_below igp prefixes n) (placed_of igp prefixes n ∷ []) (placed_of igp prefixes k)
      (subst (λ (m : ℕ). Contains (placed_of igp prefixes n ∷ []) (placed_of igp prefixes m)) same
      (Contains-first (placed_of igp prefixes n) [])))
      (cases_lt k n)

  placed_apart_below : (n : ℕ) → AllPairs (λ (p q : Block). p ≢ q) prefixes → n ≤ length prefixes →
      AreApart (placed_below igp prefixes n)
  placed_apart_below zero distinct within = pairs_none (λ (one other : Placed). one.dest ≢ other.dest)
  placed_apart_below (suc n) distinct within =
      pairs_append (λ (one other : Placed). one.dest ≢ other.dest) (placed_below igp prefixes n) (placed_of igp prefixes n ∷ [])
      (placed_apart_below n distinct (omega arith)) (pairs_one (λ (one other : Placed). one.dest ≢ other.dest) (placed_of igp prefixes n))
      (λ one other before last same.
      let is = below_is n one before in
      let dest : Placed → Block = λ (x : Placed). x.dest in
      distinct one.place n default_prefix is.0 (omega arith)
      (sym (ap dest is.1) ∙ same ∙ sym (ap dest (contains_one (placed_of igp prefixes n) other last))))

  -- of distinct prefixes no two that stand for them have the same
  pub placed_apart : AllPairs (λ (p q : Block). p ≢ q) prefixes → AreApart (placed_below igp prefixes (length prefixes))
  placed_apart distinct = placed_apart_below (length prefixes) distinct (omega arith)

  -- sorted they are in order
  pub in_prefix_order : (all : List Placed) → IsPermutation (placed_below igp prefixes (length prefixes)) all →
      AllPairs (λ (one other : Placed). StandsBefore one.dest other.dest) all → AreInPrefixOrder igp prefixes all
  in_prefix_order all permuted ascending = record {
    exact = λ one. (
      λ inside.
          let is = below_is (length prefixes) one (Contains-permutation _ _ one (IsPermutation-sym _ _ permuted) inside) in
          record { below = is.0; is = is.1 },
      λ placed. Contains-permutation _ _ one permuted (subst (Contains (placed_below igp prefixes (length prefixes))) (sym placed.is)
          (stands_below (length prefixes) one.place placed.below)),
    );
    ascending = ascending;
  }

-- ---- the entries of a table ----

-- what is shown for a prefix
record IsShownFor (u : ℕ) (igp : Igp) (entries : List Entry) (dest : Block) (o : Option ℕ) (x : ShownEntry) : Type 0 where
  number : ℕ
  numbered : o ≡ Some number
  is : x ≡ record { router = u; igp = igp; dest = dest; entry = get_or entries number Discard }

shown_for : (u : ℕ) (igp : Igp) (entries : List Entry) (dest : Block) (o : Option ℕ) (x : ShownEntry) →
    Contains (shown_with u igp entries dest o) x → IsShownFor u igp entries dest o x
shown_for u igp entries dest None x inside = absurd (Contains-none x inside)
shown_for u igp entries dest (Some number) x inside = record {
  number = number;
  numbered = refl;
  is = sym (contains_one (the_shown u igp dest (get_or entries number Discard)) x inside);
}
  where
    the_shown : ℕ → Igp → Block → Entry → ShownEntry
    the_shown v by p e = record { router = v; igp = by; dest = p; entry = e }

one_at_most : (u : ℕ) (igp : Igp) (entries : List Entry) (dest : Block) (o : Option ℕ) →
    AllPairs IsShownBefore (shown_with u igp entries dest o)
one_at_most u igp entries dest None = pairs_none IsShownBefore
one_at_most u igp entries dest (Some number) =
    pairs_one IsShownBefore (record { router = u; igp = igp; dest = dest; entry = get_or entries number Discard })

module _ (kept : KeptTable) (igp : Igp) (all : List Placed) (order : AreInPrefixOrder igp kept.prefixes all) where
  -- what stands for a prefix with a number stands for an entry of the table
  pub entry_listed : (one : Placed) (number : ℕ) → Contains all one → kept_number kept one.place ≡ Some number →
      IsListed (listed kept) one.dest (get_or kept.entries number Discard)
  entry_listed one number among numbered =
      let placed = (order.exact one).0 among in
      let row : Row = record { place = one.place; number = number } in
      subst (λ (p : Block). Contains (listed kept) (p, get_or kept.entries number Discard)) (sym (ap (λ (x : Placed). x.dest) placed.is))
      (Contains-in_map (listed_row kept.prefixes kept.entries) (rows_in kept) row
      (row_is_there kept one.place number (length kept.prefixes) numbered placed.below))

  module _ (u : ℕ) where
    ascends : (some : List Placed) → AllPairs (λ (one other : Placed). StandsBefore one.dest other.dest) some →
        AllPairs IsShownBefore (flat_map (shown_at u igp kept) some)
    ascends [] up = pairs_none IsShownBefore
    ascends (one ∷ some) up =
        pairs_append IsShownBefore (shown_at u igp kept one) (flat_map (shown_at u igp kept) some)
        (one_at_most u igp kept.entries one.dest (kept_number kept one.place))
        (ascends some (pairs_rest (λ (x y : Placed). StandsBefore x.dest y.dest) one some up))
        (λ x y before after.
        let first = (shown_for u igp kept.entries one.dest (kept_number kept one.place) x before).is in
        let later = Contains-flat_map (shown_at u igp kept) some y after in
        let second = (shown_for u igp kept.entries later.item.dest (kept_number kept later.item.place) y later.inside).is in
        by_dest (ap (λ (s : ShownEntry). s.router) first ∙ sym (ap (λ (s : ShownEntry). s.router) second))
        (ap (λ (s : ShownEntry). s.igp) first ∙ sym (ap (λ (s : ShownEntry). s.igp) second))
        (subst (λ (p : Block). StandsBefore p y.dest) (sym (ap (λ (s : ShownEntry). s.dest) first))
        (subst (λ (p : Block). StandsBefore one.dest p) (sym (ap (λ (s : ShownEntry). s.dest) second))
        (pairs_first (λ (a b : Placed). StandsBefore a.dest b.dest) one some up later.item later.among))))

    -- the entries that are shown are those of the table, in order
    pub shown_in_order : AreInShownOrder (IsOfShownTable u igp (listed kept)) (flat_map (shown_at u igp kept) all)
    shown_in_order = record {
      exact = λ x. (
        λ inside.
            let one = Contains-flat_map (shown_at u igp kept) all x inside in
            let shown = shown_for u igp kept.entries one.item.dest (kept_number kept one.item.place) x one.inside in
            record {
              router_is = ap (λ (s : ShownEntry). s.router) shown.is;
              igp_is = ap (λ (s : ShownEntry). s.igp) shown.is;
              among = subst (λ (s : ShownEntry). Contains (listed kept) (s.dest, s.entry)) (sym shown.is)
                  (entry_listed one.item shown.number one.among shown.numbered);
            },
        λ h.
            let one = Contains-map (listed_row kept.prefixes kept.entries) (rows_in kept) (x.dest, x.entry) h.among in
            let row = row_is kept (length kept.prefixes) one.item one.among in
            let placed : Placed = placed_of igp kept.prefixes one.item.place in
            let shown : ShownEntry =
            record { router = u; igp = igp; dest = placed.dest; entry = get_or kept.entries one.item.number Discard } in
            let same : shown ≡ x =
            λ i. record { router = sym h.router_is i; igp = sym h.igp_is i; dest = (one.gives i).0; entry = (one.gives i).1 } in
            Contains-in_flat_map (shown_at u igp kept) all placed x ((order.exact placed).1 (record { below = row.below; is = refl }))
            (subst (λ (o : Option ℕ). Contains (shown_with u igp kept.entries placed.dest o) x) (sym row.number)
            (subst (Contains (shown ∷ [])) same (Contains-first shown []))),
      );
      ascending = ascends all order.ascending;
    }

  -- the hops of such an entry are routers
  pub entry_hops : (n : ℕ) (one : Placed) (number : ℕ) → HaveHopsBelow n (listed kept) → Contains all one →
      kept_number kept one.place ≡ Some number → HasHopsBelow n (get_or kept.entries number Discard)
  entry_hops n one number below among numbered =
      below one.dest (get_or kept.entries number Discard) (entry_listed one number among numbered)

-- one element more
pub flat_more : {X A : Type 0} (f : X → List A) (xs : List X) (k : ℕ) (x : X) (ys : List A) → k < length xs → x ≡ get_or xs k x →
    f x ≡ ys → flat_map f (take (k + 1) xs) ≡ flat_map f (take k xs) ++ ys
flat_more {X} {A} f xs k x ys within is same =
    ap (flat_map f) (take_more xs k x within) ∙ flat_map-append f (take k xs) (get_or xs k x ∷ [])
    ∙ ap (λ (y : X). flat_map f (take k xs) ++ (f y ++ [])) (sym is)
    ∙ ap (λ (l : List A). flat_map f (take k xs) ++ l) (append-nil (f x) ∙ same)

-- the hops of a table of a source are routers
pub source_hops : (routers n u : ℕ) (table : ℕ → List (Block × Entry)) (linked : ℕ → ℕ → Type 0) (own : List (Block × Entry)) →
    AreTables routers table linked → routers ≡ n → u < n → own ≡ table u → HaveHopsBelow n own
source_hops routers n u table linked own lawful many within is dest (Via hops) inside =
    subst (λ m. All (λ h. h < m) hops) many
    (lawful.hops u dest hops (omega (arith, many)) (subst (λ (l : List (Block × Entry)). Contains l
    (dest, Via hops)) is inside)).below
source_hops routers n u table linked own lawful many within is dest Discard inside = tt
