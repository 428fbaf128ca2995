-- Laws of kept tables: their rows, what these stand for, and their prefixes.
use Rattle.std.proofs.lemmas.Grind.{common_steps}
use Rattle.std.proofs.Common.{◌≡◌, ℕ, zero, suc, ◌+◌, ◌-◌, ◌<◌, ◌≤◌, ◌⊎◌, inl, inr}
use Rattle.std.proofs.Common.{⊎_elim, List, [], ◌∷◌, ◌++◌, length, map, take, get_or, slice_get, Contains}
use Rattle.std.proofs.Common.{true, false, is_some, Option, None, Some, IfNone, refl, sym}
use Rattle.std.proofs.Common.{ap, subst, ◌∙◌, arith, append_assoc, length-append, add-one, zero-add, suc-add}
use Rattle.std.proofs.Math.Seq.{take-suc}
use Rattle.std.proofs.lemmas.Bool.{cases_lt}
use Rattle.std.proofs.lemmas.List.{append-nil, get_or_append_left, get_or_default, get_or_past, get_or-map, length-map, map-append, take_all}
use Rattle.std.proofs.lemmas.List.Elements.{Contains-get_or, Contains-push_cases}
use Rattle.std.proofs.lemmas.Option.{none-some, same_Some, slice_get-get_or, slice_get_within, get_or_from_slice_get}
use Rattle.net_addr.specs.Addresses.{Block, default_prefix}
use Rattle.net_addr.proofs.LongestMatchLaws.{slice_get-push_new}
use Rattle.route_core.specs.declared.entry.Entry.{Entry}
use Rattle.route_core.specs.declared.entry.Entry.TheVariants.{Discard}
use Rattle.route_core.specs.Rows.{AreTableRows, IsTable, KeptTable, Row, kept_number, listed, listed_row, listed_rows, row_prefix}
use Rattle.route_core.specs.Rows.{row_prefixes, row_with, rows_below, rows_in}
use Rattle.route_core.specs.Tables.{HasDistinctPrefixes, table_prefixes}
use Rattle.route_core.proofs.TableLaws.{Contains-from_place, HasDistinctPrefixes-nil, HasDistinctPrefixes-push}

-- Rows, place by place

-- at a place with a number there comes its row, at another none does
pub rows_with_number : (kept : KeptTable) (n number : ℕ) → kept_number kept n ≡ Some number →
    rows_below kept (n + 1) ≡ rows_below kept n ++ record { place = n; number = number } ∷ []
rows_with_number kept n number is = ap (rows_below kept) (add-one n) ∙ ap (λ (o : Option ℕ). rows_below kept n ++ row_with n o) is

pub rows_without_number : (kept : KeptTable) (n : ℕ) → kept_number kept n ≡ None → rows_below kept (n + 1) ≡ rows_below kept n
rows_without_number kept n is =
    ap (rows_below kept) (add-one n) ∙ ap (λ (o : Option ℕ). rows_below kept n ++ row_with n o) is ∙ append-nil (rows_below kept n)

-- rows stay where they are as others come
rows_grow : (kept : KeptTable) (n more : ℕ) → (later : List Row) × (rows_below kept (more + n) ≡ rows_below kept n ++ later)
rows_grow kept n zero = ([], ap (rows_below kept) (zero-add n) ∙ sym (append-nil (rows_below kept n)))
rows_grow kept n (suc more) =
    let before = rows_grow kept n more in
    let next : List Row = row_with (more + n) (kept_number kept (more + n)) in (
      before.0 ++ next,
      ap (rows_below kept) (suc-add more n) ∙ ap (λ (l : List Row). l ++ next) before.1 ∙ append_assoc (rows_below kept n) before.0 next,
    )

stays_in : (rows later : List Row) (i : ℕ) (row : Row) → slice_get rows i ≡ Some row → slice_get (rows ++ later) i ≡ Some row
stays_in rows later i row at =
    let within : i < length rows = slice_get_within rows i row at in
    let long = length-append rows later in
    slice_get-get_or (rows ++ later) i row (omega (arith, long))
    ∙ ap Some (get_or_append_left rows later row i within ∙ get_or_from_slice_get rows i row row at)

-- a place with a number has its row behind those of the places before
pub row_stands : (kept : KeptTable) (place number n : ℕ) → kept_number kept place ≡ Some number → place < n →
    slice_get (rows_below kept n) (length (rows_below kept place)) ≡ Some (record { place = place; number = number })
row_stands kept place number n is below =
    let row : Row = record { place = place; number = number } in
    let before : List Row = rows_below kept place in
    let grown = rows_grow kept (place + 1) (n - (place + 1)) in
    let all : n ≡ n - (place + 1) + (place + 1) = omega arith in
    let here : slice_get (rows_below kept (place + 1)) (length before) ≡ Some row =
    ap (λ (l : List Row). slice_get l (length before)) (rows_with_number kept place number is) ∙ slice_get-push_new before row in
    ap (λ (k : ℕ). slice_get (rows_below kept k) (length before)) all ∙ ap (λ (l : List Row). slice_get l (length before)) grown.1
    ∙ stays_in (rows_below kept (place + 1)) grown.0 (length before) row here

-- so the row is among them
pub row_is_there : (kept : KeptTable) (place number n : ℕ) → kept_number kept place ≡ Some number → place < n →
    Contains (rows_below kept n) (record { place = place; number = number })
row_is_there kept place number n is below =
    Contains-from_place (rows_below kept n) (length (rows_below kept place)) (record { place = place; number = number })
    (row_stands kept place number n is below)

-- what a row of the first places is
pub record IsRowBelow (kept : KeptTable) (n : ℕ) (row : Row) : Type 0 where
  pub below : row.place < n
  pub number : kept_number kept row.place ≡ Some row.number

row_cases : (kept : KeptTable) (n : ℕ) (row : Row) (o : Option ℕ) → kept_number kept n ≡ o → Contains (rows_below kept n ++ row_with n o) row →
    Contains (rows_below kept n) row ⊎ IsRowBelow kept (suc n) row
row_cases kept n row None is has = inl (subst (λ (l : List Row). Contains l row) (append-nil (rows_below kept n)) has)
row_cases kept n row (Some number) is has = ⊎_elim inl
    (λ same. inr (subst (IsRowBelow kept (suc n)) same (record { below = omega arith; number = is })))
    (Contains-push_cases (rows_below kept n) (record { place = n; number = number }) row has)

-- each row has the number of its place
pub row_is : (kept : KeptTable) (n : ℕ) (row : Row) → Contains (rows_below kept n) row → IsRowBelow kept n row
row_is kept zero row has = absurd (omega (arith, has.1))
row_is kept (suc n) row has = ⊎_elim
    (λ earlier. let is = row_is kept n row earlier in record { below = omega (arith, is.below); number = is.number })
    (λ last. last)
    (row_cases kept n row (kept_number kept n) refl has)

-- what stands at a place of the rows is one of them
pub row_at_is : (kept : KeptTable) (i : ℕ) (row : Row) → slice_get (rows_in kept) i ≡ Some row → IsRowBelow kept (length kept.prefixes) row
row_at_is kept i row at = row_is kept (length kept.prefixes) row (Contains-from_place (rows_in kept) i row at)

-- and has the number of an entry
pub row_at_numbered : (kept : KeptTable) (i : ℕ) (row : Row) → IsTable kept → slice_get (rows_in kept) i ≡ Some row → row.number < length kept.entries
row_at_numbered kept i row table at = table.numbers_below (get_or kept.kinds row.place 0) row.number (row_at_is kept i row at).number

-- The rows of a table

contains_mapped : {X Y : Type 0} (f : X → Y) (xs : List X) (y : Y) → Contains (map f xs) y → (x : X) × Contains xs x × (f x ≡ y)
contains_mapped f [] y has = absurd (omega (arith, has.1))
contains_mapped f (x ∷ xs) y (zero, below, at) = (x, (zero, omega arith, refl), at)
contains_mapped f (x ∷ xs) y (suc k, below, at) =
    let later = contains_mapped f xs y (k, omega (arith, below), at) in
    (later.0, (suc later.1.0, omega (arith, later.1.1), later.1.2), later.2)

distinct_with : (kept : KeptTable) (n : ℕ) (o : Option ℕ) → IsTable kept → kept_number kept n ≡ o → n < length kept.prefixes →
    HasDistinctPrefixes (listed_rows kept.prefixes kept.entries (rows_below kept n)) →
    HasDistinctPrefixes (listed_rows kept.prefixes kept.entries (rows_below kept n ++ row_with n o))
distinct_with kept n None table is below distinct =
    subst (λ (l : List Row). HasDistinctPrefixes (listed_rows kept.prefixes kept.entries l)) (sym (append-nil (rows_below kept n))) distinct
distinct_with kept n (Some number) table is below distinct =
    let stands : Row → Block × Entry = listed_row kept.prefixes kept.entries in
    let next : Row = record { place = n; number = number } in
    let rows : List Row = rows_below kept n in
    subst HasDistinctPrefixes (sym (map-append stands rows (next ∷ [])))
    (HasDistinctPrefixes-push (map stands rows) (stands next) distinct (λ e has.
    let one = contains_mapped stands rows ((stands next).0, e) has in
    let earlier = row_is kept n one.0 one.1 in
    table.distinct one.0.place n default_prefix earlier.below below (ap (λ (x : Block × Entry). x.0) one.2)))

distinct_below : (kept : KeptTable) (n : ℕ) → IsTable kept → n ≤ length kept.prefixes →
    HasDistinctPrefixes (listed_rows kept.prefixes kept.entries (rows_below kept n))
distinct_below kept zero table below = HasDistinctPrefixes-nil
distinct_below kept (suc n) table below =
    distinct_with kept n (kept_number kept n) table refl (omega arith) (distinct_below kept n table (omega arith))

-- the rows that a table stands for are those of a table
pub table_rows : (kept : KeptTable) → IsTable kept → AreTableRows kept.prefixes kept.entries (rows_in kept)
table_rows kept table =
    let n : ℕ = length kept.prefixes in
    let at : (k : ℕ) (d : Row) → k < length (rows_in kept) → IsRowBelow kept n (get_or (rows_in kept) k d) =
    λ k d below. row_is kept n (get_or (rows_in kept) k d) (Contains-get_or (rows_in kept) k d below) in
    record {
      places = λ k d below. (at k d below).below;
      numbers = λ k d below.
          let row : Row = get_or (rows_in kept) k d in
          table.numbers_below (get_or kept.kinds row.place 0) row.number (at k d below).number;
      distinct = distinct_below kept n table (omega arith);
    }

-- the rows' prefixes are those of what they stand for
pub prefixes_of_rows : (prefixes : List Block) (entries : List Entry) (rows : List Row) →
    row_prefixes prefixes rows ≡ table_prefixes (listed_rows prefixes entries rows)
prefixes_of_rows prefixes entries [] = refl
prefixes_of_rows prefixes entries (row ∷ rows) = ap (λ (l : List Block). row_prefix prefixes row ∷ l) (prefixes_of_rows prefixes entries rows)

-- what stands at a place of the rows
pub listed_at : (kept : KeptTable) (i : ℕ) (row : Row) → slice_get (rows_in kept) i ≡ Some row →
    slice_get (listed kept) i ≡ Some (listed_row kept.prefixes kept.entries row)
listed_at kept i row at =
    let stands = listed_row kept.prefixes kept.entries in
    let rows : List Row = rows_in kept in
    let within : i < length rows = slice_get_within rows i row at in
    let long : length (map stands rows) ≡ length rows = length-map rows stands in
    slice_get-get_or (map stands rows) i (stands row) (omega arith)
    ∙ ap Some (get_or-map stands rows i row (stands row) within ∙ ap stands (get_or_from_slice_get rows i row row at))

-- Tables that share nothing

-- each prefix is a kind of its own, with its own entry
pub record AreOwnParts (kept : KeptTable) (now : List (Block × Entry)) : Type 0 where
  pub prefixes_are : kept.prefixes ≡ map (λ (x : Block × Entry). x.0) now
  pub entries_are : kept.entries ≡ map (λ (x : Block × Entry). x.1) now
  pub kinds : length kept.kinds ≡ length now
  pub numbers : length kept.numbers ≡ length now
  pub kind : (k : ℕ) → k < length now → get_or kept.kinds k 0 ≡ k
  pub number : (k : ℕ) → k < length now → get_or kept.numbers k None ≡ Some k

own_number : (kept : KeptTable) (now : List (Block × Entry)) (k : ℕ) → AreOwnParts kept now → k < length now → kept_number kept k ≡ Some k
own_number kept now k own below = ap (λ (j : ℕ). get_or kept.numbers j None) (own.kind k below) ∙ own.number k below

own_number_below : (kept : KeptTable) (now : List (Block × Entry)) (kind number : ℕ) → AreOwnParts kept now → get_or kept.numbers kind None ≡ Some number →
    length now ≤ length kept.entries → number < length kept.entries
own_number_below kept now kind number own is long = elim (cases_lt kind (length now)) [
  | inl below ↦ let same : kind ≡ number = same_Some kind number (sym (own.number kind below) ∙ is) in omega arith
  | inr past ↦ absurd (none-some number (sym (get_or_past kept.numbers kind None (omega (arith, own.numbers))) ∙ is))
]

own_listed : (kept : KeptTable) (now : List (Block × Entry)) (n : ℕ) → AreOwnParts kept now → n ≤ length now →
    listed_rows kept.prefixes kept.entries (rows_below kept n) ≡ take n now
own_listed kept now zero own below = refl
own_listed kept now (suc n) own below =
    let stands = listed_row kept.prefixes kept.entries in
    let row : Row = record { place = n; number = n } in
    let d : Block × Entry = (default_prefix, Discard) in
    let before : map stands (rows_below kept n) ≡ take n now = own_listed kept now n own (omega arith) in
    let grown : rows_below kept (suc n) ≡ rows_below kept n ++ row ∷ [] =
    ap (λ (o : Option ℕ). rows_below kept n ++ row_with n o) (own_number kept now n own (omega arith)) in
    let p : get_or kept.prefixes n default_prefix ≡ (get_or now n d).0 =
    ap (λ (l : List Block). get_or l n default_prefix) own.prefixes_are ∙ get_or-map (λ (x : Block × Entry). x.0) now n d default_prefix (omega arith) in
    let e : get_or kept.entries n Discard ≡ (get_or now n d).1 =
    ap (λ (l : List Entry). get_or l n Discard) own.entries_are ∙ get_or-map (λ (x : Block × Entry). x.1) now n d Discard (omega arith) in
    let here : stands row ≡ get_or now n d = ap (λ (q : Block). (q, get_or kept.entries n Discard)) p ∙ ap (λ (f : Entry). ((get_or now n d).0, f)) e in
    ap (map stands) grown ∙ map-append stands (rows_below kept n) (row ∷ []) ∙ ap (λ (l : List (Block × Entry)). l ++ stands row ∷ []) before
    ∙ ap (λ (x : Block × Entry). take n now ++ x ∷ []) here ∙ sym (take-suc now n d (omega arith))

-- they stand for their entries
pub own_parts_listed : (kept : KeptTable) (now : List (Block × Entry)) → AreOwnParts kept now → listed kept ≡ now
own_parts_listed kept now own =
    let long : length kept.prefixes ≡ length now = ap length own.prefixes_are ∙ length-map now (λ (x : Block × Entry). x.0) in
    own_listed kept now (length kept.prefixes) own (omega arith) ∙ take_all (length kept.prefixes) now (omega arith)

-- and are a table, where no prefix comes twice
pub own_parts_table : (kept : KeptTable) (now : List (Block × Entry)) → AreOwnParts kept now → HasDistinctPrefixes now → IsTable kept
own_parts_table kept now own distinct =
    let long : length kept.prefixes ≡ length now = ap length own.prefixes_are ∙ length-map now (λ (x : Block × Entry). x.0) in
    let entries : length kept.entries ≡ length now = ap length own.entries_are ∙ length-map now (λ (x : Block × Entry). x.1) in
    record {
      distinct = λ i j d before below same.
          let x : Block × Entry = (d, Discard) in
          let at : (k : ℕ) → k < length now → get_or kept.prefixes k d ≡ (get_or now k x).0 =
          λ k inside. ap (λ (l : List Block). get_or l k d) own.prefixes_are ∙ get_or-map (λ (y : Block × Entry). y.0) now k x d inside in
          distinct i j x before (omega arith) (sym (at i (omega arith)) ∙ same ∙ at j (omega arith));
      kinds = own.kinds ∙ sym long;
      kinds_below = λ k d below.
          let is : get_or kept.kinds k d ≡ k = get_or_default kept.kinds k d 0 below ∙ own.kind k (omega (arith, own.kinds)) in
          omega (arith, own.kinds, own.numbers);
      numbers_below = λ kind number is. own_number_below kept now kind number own is (omega (arith, entries));
    }

-- a fact holds where an option is none
pub if_none_by : {T : Type 0} (o : Option T) (P : Type 0) → P → IfNone o P
if_none_by o P p = grind (arith, common_steps)

-- an option is none, or some number
pub some_number : (o : Option ℕ) → is_some o ≡ true → (n : ℕ) × (o ≡ Some n)
some_number o is = grind (arith, common_steps)

pub no_number : (o : Option ℕ) → is_some o ≡ false → o ≡ None
no_number o is = grind (arith, common_steps)
