-- Laws of tables: entries by place and by membership, one entry a prefix, one longest match.
use Rattle.std.proofs.lemmas.Grind.{common_steps}
use Rattle.std.proofs.Common.{◌≡◌, ◌≢◌, ℕ, zero, suc, ◌<◌, inl, inr, List, [], ◌∷◌}
use Rattle.std.proofs.Common.{◌++◌, length, get_or, slice_get, Some, Contains, sym, ap, ◌∙◌, arith, subst}
use Rattle.std.proofs.lemmas.Bool.{cases_lt}
use Rattle.std.proofs.lemmas.List.Elements.{Contains-get_or}
use Rattle.std.proofs.lemmas.List.Quantifiers.{all_pairs_push}
use Rattle.std.proofs.lemmas.Option.{slice_get_within, slice_get-get_or, get_or_from_slice_get, same_Some}
use Rattle.net_addr.proofs.LongestMatchLaws.{IsLongestMatch-same, one_longest_match}
use Rattle.net_addr.specs.Addresses.{Block}
use Rattle.net_addr.specs.LongestMatches.{IsLongestMatch, LongestAt}
use Rattle.route_core.specs.declared.entry.Entry.{Entry}
use Rattle.route_core.specs.Tables.{HasDistinctPrefixes, IsListed, LongestEntry, table_prefixes}
use Rattle.route_core.specs.steps.Matches.{AreBlocks}

-- what stands at a place of a list is in the list
pub Contains-from_place : {X : Type 0} (xs : List X) (i : ℕ) (x : X) → slice_get xs i ≡ Some x → Contains xs x
Contains-from_place xs i x h = (i, slice_get_within xs i x h, get_or_from_slice_get xs i x x h)

-- what is in a list stands at some place of it
pub place_from_Contains : {X : Type 0} (xs : List X) (x : X) → Contains xs x → (i : ℕ) × (slice_get xs i ≡ Some x)
place_from_Contains xs x h = (h.0, slice_get-get_or xs h.0 x h.1 ∙ ap Some h.2)

-- an empty table has no prefix twice
pub HasDistinctPrefixes-nil : HasDistinctPrefixes []
HasDistinctPrefixes-nil = λ i j d before below. absurd (omega arith)

-- a table may get an entry for a prefix that it has no entry for
pub HasDistinctPrefixes-push : (xs : List (Block × Entry)) (next : Block × Entry) → HasDistinctPrefixes xs
    → ((entry : Entry) → ¬ Contains xs (next.0, entry)) → HasDistinctPrefixes (xs ++ next ∷ [])
HasDistinctPrefixes-push xs next distinct new =
    all_pairs_push (λ one other. one.0 ≢ other.0) xs next distinct
    (λ k d below same. new (get_or xs k d).1 (subst (λ (p : Block). Contains xs (p, (get_or xs k d).1)) same (Contains-get_or xs k d below)))

prefixes_agree : {x y : Block × Entry} {p : Block} {e f : Entry} → x ≡ (p, e) → y ≡ (p, f) → x.0 ≡ y.0
prefixes_agree is_x is_y = ap (λ (x : Block × Entry). x.0) is_x ∙ sym (ap (λ (x : Block × Entry). x.0) is_y)

-- in a table with distinct prefixes two entries for one prefix stand at one place
pub same_place : (xs : List (Block × Entry)) (i j : ℕ) (p : Block) (e f : Entry) → HasDistinctPrefixes xs
    → slice_get xs i ≡ Some (p, e) → slice_get xs j ≡ Some (p, f) → i ≡ j
same_place xs i j p e f distinct at_i at_j =
    let is_i : get_or xs i (p, e) ≡ (p, e) = get_or_from_slice_get xs i (p, e) (p, e) at_i in
    let is_j : get_or xs j (p, e) ≡ (p, f) = get_or_from_slice_get xs j (p, f) (p, e) at_j in
    let in_i : i < length xs = slice_get_within xs i (p, e) at_i in
    let in_j : j < length xs = slice_get_within xs j (p, f) at_j in
    elim (cases_lt i j) [
      | inl before ↦ absurd (distinct i j (p, e) before in_j (prefixes_agree is_i is_j))
      | inr after ↦ elim (cases_lt j i) [
        | inl before ↦ absurd (distinct j i (p, e) before in_i (sym (prefixes_agree is_i is_j)))
        | inr before ↦ omega arith
      ]
    ]

-- in a table with distinct prefixes a prefix has one entry
pub one_entry : (xs : List (Block × Entry)) (p : Block) (e f : Entry) → HasDistinctPrefixes xs
    → Contains xs (p, e) → Contains xs (p, f) → e ≡ f
one_entry xs p e f distinct has_e has_f =
    let at_e : (i : ℕ) × (slice_get xs i ≡ Some (p, e)) = place_from_Contains xs (p, e) has_e in
    let at_f : (i : ℕ) × (slice_get xs i ≡ Some (p, f)) = place_from_Contains xs (p, f) has_f in
    let same : at_e.0 ≡ at_f.0 = same_place xs at_e.0 at_f.0 p e f distinct at_e.1 at_f.1 in
    let both : slice_get xs at_f.0 ≡ Some (p, e) = subst (λ (k : ℕ). slice_get xs k ≡ Some (p, e)) same at_e.1 in
    ap (λ (x : Block × Entry). x.1) (same_Some (p, e) (p, f) (sym both ∙ at_f.1))

-- Prefixes of a table

-- an entry stands where its prefix does
pub entry_at : (xs : List (Block × Entry)) (i : ℕ) (p : Block) → slice_get (table_prefixes xs) i ≡ Some p → (e : Entry) × (slice_get xs i ≡ Some (p, e))
entry_at [] i p h = cc
entry_at (x ∷ xs) zero p h = (x.1, ap Some (λ i. (same_Some x.0 p h i, x.1)))
entry_at (x ∷ xs) (suc i) p h = entry_at xs i p h

prefix_at : (xs : List (Block × Entry)) (i : ℕ) (p : Block) (e : Entry) → slice_get xs i ≡ Some (p, e) → slice_get (table_prefixes xs) i ≡ Some p
prefix_at [] i p e h = cc
prefix_at (x ∷ xs) zero p e h = ap Some (ap (λ (y : Block × Entry). y.0) (same_Some x (p, e) h))
prefix_at (x ∷ xs) (suc i) p e h = prefix_at xs i p e h

-- a table's prefixes are those of its entries
pub entry_of_prefix : (xs : List (Block × Entry)) (p : Block) → Contains (table_prefixes xs) p → (e : Entry) × Contains xs (p, e)
entry_of_prefix xs p h =
    let at : (i : ℕ) × (slice_get (table_prefixes xs) i ≡ Some p) = place_from_Contains (table_prefixes xs) p h in
    let one : (e : Entry) × (slice_get xs at.0 ≡ Some (p, e)) = entry_at xs at.0 p at.1 in
    (one.0, Contains-from_place xs at.0 (p, one.0) one.1)

pub prefix_of_entry : (xs : List (Block × Entry)) (p : Block) (e : Entry) → Contains xs (p, e) → Contains (table_prefixes xs) p
prefix_of_entry xs p e h = grind (arith, common_steps, place_from_Contains, prefix_at)

-- the entry of the longest match stands where the longest match was found
pub longest_stands : (xs : List (Block × Entry)) (a i : ℕ) (p : Block) (e : Entry) → HasDistinctPrefixes xs → AreBlocks (table_prefixes xs) a
    → LongestAt (table_prefixes xs) a i → LongestEntry (IsListed xs) a p e → slice_get xs i ≡ Some (p, e)
longest_stands xs a i p e distinct blocks at longest =
    let other : IsLongestMatch (Contains (table_prefixes xs)) a p =
    IsLongestMatch-same (λ q. (f : Entry) × Contains xs (q, f)) (Contains (table_prefixes xs)) a p
    (λ q. (λ has. prefix_of_entry xs q has.0 has.1, entry_of_prefix xs q)) longest.match in
    let same : at.prefix ≡ p = one_longest_match (Contains (table_prefixes xs)) a at.prefix p
    (blocks at.prefix at.match.is_offered at.match.contains) (blocks p other.is_offered other.contains) at.match other in
    let stands : (f : Entry) × (slice_get xs i ≡ Some (p, f)) = entry_at xs i p (at.stands ∙ ap Some same) in
    let one : stands.0 ≡ e = one_entry xs p stands.0 e distinct (Contains-from_place xs i (p, stands.0) stands.1) longest.listed in
    subst (λ (f : Entry). slice_get xs i ≡ Some (p, f)) one stands.1
