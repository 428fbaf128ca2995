-- Spots of prefixes in a list, as one more of the list is seen, and the numbers that a table has at them.
use Rattle.std.proofs.Common.{◌^◌, ◌≡◌, ◌≢◌, ℕ, ◌+◌, ◌<◌, ◌≤◌, List, length, get_or, set, Option}
use Rattle.std.proofs.Common.{Some, None, Contains, IfNone, IfSome, slice_get}
use Rattle.std.proofs.Common.{⊎_elim, arith, refl, sym, ap, subst, ◌∙◌, get_or-set_other, get_or-set_same}
use Rattle.std.specs.Option.{option_map}
use Rattle.std.proofs.lemmas.Bool.{cases_eq, cases_lt}
use Rattle.std.proofs.lemmas.List.{get_or_default, get_or_past, length-set}
use Rattle.std.proofs.lemmas.Option.{none-some, same_Some, slice_get_within, slice_get-get_or, slice_get-map, get_or_from_slice_get}
use Rattle.net_addr.specs.Addresses.{Block, default_prefix}
use Rattle.net_model.proofs.Members.{Contains-map}
use Rattle.route_core.specs.Rows.{IsTable, KeptTable, Row, kept_in, kept_number, row_prefix, rows_below, rows_in}
use Rattle.route_core.proofs.RowLaws.{row_is, row_stands}
use Rattle.route_core.proofs.TableLaws.{Contains-from_place}
use Rattle.prefix_atoms.specs.Longest.{number_at}
use Rattle.prefix_atoms.specs.Nested.{AreAscendingPrefixes}
use Rattle.prefix_atoms.proofs.ClassFacts.{one_place}
use Rattle.prefix_atoms.proofs.NestedLaws.{ascending_apart}
use Rattle.prefix_atoms.proofs.Pushed.{at_place}
use Rattle.rib_mix.specs.steps.Sites.{prefixes_in}
use Rattle.rib_mix.specs.steps.OwnCells.{kind_at_spot}
use Rattle.rib_mix.specs.steps.Spots.{AreSpots, IsPlaced, IsSpot, PlacedTable, number_at_spot, number_in, with_spot}
use Rattle.rib_mix.specs.steps.WayUp.{AreOwnNumbers, IsOwnNumber}

-- the next one of the list is put where it stands among the prefixes
pub spot_next : (prefixes list : List Block) (n : ℕ) (p : Block) (place : Option ℕ) (old new : List (Option ℕ)) → AreAscendingPrefixes prefixes
    → slice_get list n ≡ Some p → IfSome place (λ k. slice_get prefixes k ≡ Some p) → IfNone place (¬ Contains prefixes p)
    → new ≡ with_spot place n old → AreSpots prefixes list n old → AreSpots prefixes list (n + 1) new
spot_next prefixes list n p place old new up at found missed is are = subst (AreSpots prefixes list (n + 1)) (sym is) (by_place place found missed)
  where
    -- a prefix that isn't the next one has its spot still
    later : (q : Block) (spot : Option ℕ) → p ≢ q → IsSpot list n q spot → IsSpot list (n + 1) q spot
    later q None apart none = λ k below at_q. ⊎_elim
        (λ (l : k < n). none k l at_q)
        (λ (l : n ≤ k). let e : k ≡ n = omega arith in apart (same_Some p q (sym at ∙ subst (λ (j : ℕ). slice_get list j ≡ Some q) e at_q)))
        (cases_lt k n)
    later q (Some k) apart stands = stands

    by_place : (o : Option ℕ) → IfSome o (λ k. slice_get prefixes k ≡ Some p) → IfNone o (¬ Contains prefixes p)
        → AreSpots prefixes list (n + 1) (with_spot o n old)
    by_place None found missed = record {
      count = are.count;
      each = λ i q at_q. later q (get_or old i None) (λ same. missed (subst (Contains prefixes) (sym same) (Contains-from_place prefixes i q at_q)))
          (are.each i q at_q);
    }
    by_place (Some j) found missed = record { count = length-set old j (Some n) ∙ are.count; each = each }
      where
        within : j < length old
        within = omega (arith, slice_get_within prefixes j p found, are.count)

        here : (i : ℕ) (q : Block) → j ≡ i → slice_get prefixes i ≡ Some q → IsSpot list (n + 1) q (get_or (set old j (Some n)) i None)
        here i q same at_q =
            let is_p : p ≡ q = same_Some p q (sym found ∙ subst (λ (k : ℕ). slice_get prefixes k ≡ Some q) (sym same) at_q) in
            subst (λ (k : ℕ). IsSpot list (n + 1) q (get_or (set old j (Some n)) k None)) same
            (subst (IsSpot list (n + 1) q) (sym (get_or-set_same old j (Some n) None within)) (at ∙ ap Some is_p))

        there : (i : ℕ) (q : Block) → i ≢ j → slice_get prefixes i ≡ Some q → IsSpot list (n + 1) q (get_or (set old j (Some n)) i None)
        there i q apart at_q =
            subst (IsSpot list (n + 1) q) (sym (get_or-set_other old j i (Some n) None apart))
            (later q (get_or old i None)
            (λ same. apart (one_place prefixes i j p (ascending_apart prefixes up)
            (subst (λ (x : Block). slice_get prefixes i ≡ Some x) (sym same) at_q) found))
            (are.each i q at_q))

        each : (i : ℕ) (q : Block) → slice_get prefixes i ≡ Some q → IsSpot list (n + 1) q (get_or (set old j (Some n)) i None)
        each i q at_q = ⊎_elim (λ same. here i q (sym same) at_q) (λ apart. there i q apart at_q) (cases_eq i j)

-- spots are places in the list
spot_within : (list : List Block) (n : ℕ) (p : Block) (spot : Option ℕ) → IsSpot list n p spot
    → IfSome spot (λ k. k < length list)
spot_within list n p None none = tt
spot_within list n p (Some k) stands = slice_get_within list k p stands

-- the number of the kind of the prefix at a spot is that of the spot
spot_number : (kept : KeptTable) (spot : Option ℕ) → IsTable kept → length kept.numbers < 2 ^ 32
    → IfSome spot (λ k. k < length kept.prefixes)
    → get_or kept.numbers (kind_at_spot kept.kinds spot) None ≡ number_at_spot kept spot
spot_number kept None table few within = get_or_past kept.numbers 4294967295 None (omega (arith, few))
spot_number kept (Some k) table few within =
    ap (λ (kind : ℕ). get_or kept.numbers kind None)
    (get_or_default kept.kinds k 4294967295 0 (omega (arith, within, table.kinds)))

-- the number of the kind of the prefix at a place is that which the table has for it
pub number_of_kind : (prefixes : List Block) (table : PlacedTable) (place : ℕ) → IsPlaced prefixes table → place < length prefixes
    → length table.parts.numbers.now < 2 ^ 32
    → get_or table.parts.numbers.now (kind_at_spot table.parts.kinds.now (get_or table.spots place None)) None
    ≡ number_in table place
number_of_kind prefixes table place placed within few =
    let p = at_place prefixes place within in
    let spot : Option ℕ = get_or table.spots place None in
    spot_number (kept_in table.parts) spot placed.kept few
    (spot_within table.parts.prefixes.now (length table.parts.prefixes.now) p.0 spot (placed.spots.each place p.0 p.1))

-- the numbers that a table has at its spots are those of its rows
pub rows_number : (prefixes : List Block) (table : PlacedTable) → IsPlaced prefixes table
    → AreOwnNumbers prefixes (prefixes_in table.parts) (number_at (rows_in (kept_in table.parts))) (number_in table)
rows_number prefixes table placed i p at = by_spot (get_or table.spots i None) (placed.spots.each i p at)
  where
    kept : KeptTable
    kept = kept_in table.parts

    n : ℕ
    n = length kept.prefixes

    Numbered : Option ℕ → Type 0
    Numbered number = IsOwnNumber (prefixes_in table.parts) (number_at (rows_in kept)) p number

    -- a row for the prefix has the number of a place where it stands
    row_of : Contains (prefixes_in table.parts) p → (place number : ℕ) × (place < n) × (slice_get kept.prefixes place ≡ Some p)
        × (kept_number kept place ≡ Some number)
    row_of has =
        let one = Contains-map (row_prefix kept.prefixes) (rows_in kept) p has in
        let row = row_is kept n one.item one.among in
        (one.item.place, one.item.number, row.below, slice_get-get_or kept.prefixes one.item.place default_prefix row.below ∙ ap Some one.gives, row.number)

    by_number : (spot : ℕ) (o : Option ℕ) → slice_get kept.prefixes spot ≡ Some p → kept_number kept spot ≡ o → Numbered o
    by_number spot None stands is = λ has.
        let row = row_of has in
        let same : row.0 ≡ spot = one_place kept.prefixes row.0 spot p placed.kept.distinct row.3 stands in
        none-some row.1 (sym is ∙ ap (kept_number kept) (sym same) ∙ row.4)
    by_number spot (Some number) stands is =
        let row : Row = record { place = spot; number = number } in
        let place : ℕ = length (rows_below kept spot) in
        let there : slice_get (rows_in kept) place ≡ Some row = row_stands kept spot number n is (slice_get_within kept.prefixes spot p stands) in (
          place,
          slice_get-map (row_prefix kept.prefixes) (rows_in kept) place ∙ ap (option_map (row_prefix kept.prefixes)) there
              ∙ ap Some (get_or_from_slice_get kept.prefixes spot p default_prefix stands),
          get_or_from_slice_get _ place number 0 (slice_get-map (λ (r : Row). r.number) (rows_in kept) place ∙ ap (option_map (λ (r : Row). r.number)) there),
        )

    by_spot : (o : Option ℕ) → IsSpot kept.prefixes n p o → Numbered (number_at_spot kept o)
    by_spot None none = λ has. let row = row_of has in none row.0 row.2 row.3
    by_spot (Some spot) stands = by_number spot (kept_number kept spot) stands refl
