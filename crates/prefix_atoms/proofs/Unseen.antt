-- The places of prefixes that no table has had an entry for, as one table more is seen.
use Rattle.std.proofs.Common.{◌≡◌, ℕ, ◌<◌, ◌⊎◌, Bool, true, false, if◌then◌else◌, inl, inr, List, ◌++◌, length, get_or, Contains, Option, None, Some}
use Rattle.std.proofs.Common.{is_some, ⊎_elim, arith, refl, sym, ap, subst, ◌∙◌, zero-add}
use Rattle.std.specs.List.{filter_map, range_with_len}
use Rattle.std.proofs.lemmas.List.Elements.{All-contains, Contains-append_left, Contains-append_right, Contains-append_cases, Contains-get_or}
use Rattle.std.proofs.lemmas.List.FromFn.{length-range_with_len, get_or-range_with_len}
use Rattle.std.proofs.lemmas.Option.{same_Some}
use Rattle.net_addr.specs.Addresses.{Block, default_prefix}
use Rattle.net_model.proofs.Members.{Contains-map, Contains-in_map, Contains-filter_map, Contains-in_filter_map}
use Rattle.route_core.specs.Rows.{KeptTable, Row, kept_number, row_prefix, row_prefixes, rows_in}
use Rattle.route_core.proofs.RowLaws.{row_is, row_is_there}
use Rattle.prefix_atoms.specs.steps.Lists.{AreUnseen, GainsPrefixes, seen_prefix, unseen_place}

-- at first no table has had an entry for any
pub unseen_first : (shared : List Block) (unseen : List ℕ) (found : List Block) → unseen ≡ range_with_len 0 (length shared) → AreUnseen shared unseen found
unseen_first shared unseen found is = subst (λ (places : List ℕ). AreUnseen shared places found) (sym is) (record {
  places = λ k d l. let below = within k l in let at = get_or-range_with_len 0 (length shared) k d below in omega (arith, at, below);
  seen = λ place below. inl (place, omega (arith, below, many), get_or-range_with_len 0 (length shared) place place below ∙ zero-add place);
})
  where
    many : length (range_with_len 0 (length shared)) ≡ length shared
    many = length-range_with_len 0 (length shared)

    within : (k : ℕ) → k < length (range_with_len 0 (length shared)) → k < length shared
    within k l = omega (arith, l, many)

-- a place has an entry where its prefix is seen, and else it is left
number_seen : (kept : KeptTable) (place : ℕ) (p : Block) → seen_prefix kept place ≡ Some p
    → (number : ℕ) × (kept_number kept place ≡ Some number) × (get_or kept.prefixes place default_prefix ≡ p)
number_seen kept place p is = by_number (kept_number kept place) refl is
  where
    by_number : (o : Option ℕ) → kept_number kept place ≡ o → (if is_some o then Some (get_or kept.prefixes place default_prefix) else None) ≡ Some p
        → (number : ℕ) × (kept_number kept place ≡ Some number) × (get_or kept.prefixes place default_prefix ≡ p)
    by_number None at same = cc
    by_number (Some number) at same = (number, at, same_Some (get_or kept.prefixes place default_prefix) p same)

place_left : (kept : KeptTable) (place left : ℕ) → unseen_place kept place ≡ Some left → place ≡ left
place_left kept place left is = by_some (is_some (kept_number kept place)) is
  where
    by_some : (b : Bool) → (if b then None else Some place) ≡ Some left → place ≡ left
    by_some true same = cc
    by_some false same = same_Some place left same

-- the prefixes that are seen are those of the table's rows
pub rows_gained : (kept : KeptTable) (unseen : List ℕ) (old new : List Block) → AreUnseen kept.prefixes unseen old
    → new ≡ old ++ filter_map (seen_prefix kept) unseen → GainsPrefixes old new (row_prefixes kept.prefixes (rows_in kept))
rows_gained kept unseen old new are is p = (
  λ has. ⊎_elim inl (λ more. inr (of_row more)) (Contains-append_cases old seen p (subst (λ (ps : List Block). Contains ps p) is has)),
  λ either. subst (λ (ps : List Block). Contains ps p) (sym is) (⊎_elim (Contains-append_left old seen p) gained either),
)
  where
    seen : List Block
    seen = filter_map (seen_prefix kept) unseen

    of_row : Contains seen p → Contains (row_prefixes kept.prefixes (rows_in kept)) p
    of_row more =
        let one = Contains-filter_map (seen_prefix kept) unseen p more in
        let at = number_seen kept one.item p one.gives in
        let row : Row = record { place = one.item; number = at.0 } in
        subst (Contains (row_prefixes kept.prefixes (rows_in kept))) at.2
        (Contains-in_map (row_prefix kept.prefixes) (rows_in kept) row (row_is_there kept one.item at.0 (length kept.prefixes) at.1
        (All-contains (λ (place : ℕ). place < length kept.prefixes) unseen one.item are.places one.among)))

    gained : Contains (row_prefixes kept.prefixes (rows_in kept)) p → Contains (old ++ seen) p
    gained has =
        let one = Contains-map (row_prefix kept.prefixes) (rows_in kept) p has in
        let row = row_is kept (length kept.prefixes) one.item one.among in
        let is_seen : seen_prefix kept one.item.place ≡ Some p =
        ap (λ (o : Option ℕ). if is_some o then Some (get_or kept.prefixes one.item.place default_prefix) else None) row.number ∙ ap Some one.gives in
        ⊎_elim
        (λ left. Contains-append_right old seen p (Contains-in_filter_map (seen_prefix kept) unseen one.item.place p left is_seen))
        (λ found. Contains-append_left old seen p (subst (Contains old) one.gives found))
        (are.seen one.item.place row.below)

-- the prefixes at the other places are left
pub unseen_more : (kept : KeptTable) (unseen left : List ℕ) (old new : List Block) → AreUnseen kept.prefixes unseen old
    → new ≡ old ++ filter_map (seen_prefix kept) unseen → left ≡ filter_map (unseen_place kept) unseen → AreUnseen kept.prefixes left new
unseen_more kept unseen left old new are is is_left =
    subst (λ (ps : List Block). AreUnseen kept.prefixes left ps) (sym is)
    (subst (λ (ls : List ℕ). AreUnseen kept.prefixes ls (old ++ seen)) (sym is_left) (record {
      places = λ k d l.
          let one = Contains-filter_map (unseen_place kept) unseen (get_or stays k d) (Contains-get_or stays k d l) in
          subst (λ (place : ℕ). place < length kept.prefixes) (place_left kept one.item (get_or stays k d) one.gives)
          (All-contains (λ (place : ℕ). place < length kept.prefixes) unseen one.item are.places one.among);
      seen = λ place below. ⊎_elim
          (λ before. by_some place before (is_some (kept_number kept place)) refl)
          (λ found. inr (Contains-append_left old seen (get_or kept.prefixes place default_prefix) found))
          (are.seen place below);
    }))
  where
    seen : List Block
    seen = filter_map (seen_prefix kept) unseen

    stays : List ℕ
    stays = filter_map (unseen_place kept) unseen

    by_some : (place : ℕ) → Contains unseen place → (b : Bool) → is_some (kept_number kept place) ≡ b
        → Contains stays place ⊎ Contains (old ++ seen) (get_or kept.prefixes place default_prefix)
    by_some place before true at =
        let p : Block = get_or kept.prefixes place default_prefix in
        inr (Contains-append_right old seen p (Contains-in_filter_map (seen_prefix kept) unseen place p before
        (ap (λ (b : Bool). if b then Some p else None) at)))
    by_some place before false at =
        inl (Contains-in_filter_map (unseen_place kept) unseen place place before (ap (λ (b : Bool). if b then None else Some place) at))
