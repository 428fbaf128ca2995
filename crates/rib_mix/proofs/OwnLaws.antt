-- What routers use for the first prefix of a sort, router by router.
use Rattle.std.proofs.Common.{◌≡◌, ◌≢◌, ◌∙◌, ℕ, ◌<◌, ◌+◌, ◌==◌, inl, inr, [], ◌∷◌, ◌++◌}
use Rattle.std.proofs.Common.{Bool, true, false, List, Option, None, Some}
use Rattle.std.proofs.Common.{if◌then◌else◌, Contains, ap, arith, get_or, length, refl, set, slice_get, subst, sym, IfSome}
use Rattle.std.specs.Bool.{OnFalse}
use Rattle.std.proofs.lemmas.Bool.{cases_eq, false≢true}
use Rattle.std.proofs.lemmas.List.{get_or-set_other, get_or-set_same, length-set}
use Rattle.std.proofs.lemmas.List.Elements.{Contains-append_left, Contains-push, Contains-push_cases}
use Rattle.std.proofs.lemmas.Option.{none-some, same_Some, slice_get_within}
use Rattle.prefix_atoms.proofs.Pushed.{at_place}
use Rattle.net_model.specs.Network.{Network}
use Rattle.route_core.specs.Rows.{IsTable, KeptTable, kept_in}
use Rattle.rib_mix.specs.Cells.{no_cell}
use Rattle.rib_mix.specs.declared.both_tables.BothTables.{BothTables}
use Rattle.rib_mix.specs.declared.cell.Cell.{Cell}
use Rattle.rib_mix.specs.declared.kinds.Kinds.{Kinds}
use Rattle.rib_mix.specs.declared.own.OfRouter.{OfRouter}
use Rattle.rib_mix.specs.declared.sorts.Sorts.{Sorts}
use Rattle.rib_mix.specs.declared.spots.BothSpots.{BothSpots}
use Rattle.rib_mix.specs.steps.Features.{AreBegins, HasKindsBefore}
use Rattle.rib_mix.specs.steps.Homes.{is_home}
use Rattle.rib_mix.specs.steps.Likeness.{PlacedPrefixes}
use Rattle.rib_mix.specs.steps.OwnCells.{AreAllOwn, AreByLanes, AreColumnCells, AreEachOwn, AreEntryCells, AreKindRows, Connects}
use Rattle.rib_mix.specs.steps.OwnCells.{GoesOn, HasCodes, HasFew, HaveCodes, IsOwnAt}
use Rattle.rib_mix.specs.steps.OwnCells.{HaveAllCodes, TellsOfRouter, entry_cell, has_in, kind_at_spot, kinds_of}
use Rattle.rib_mix.specs.steps.Sites.{AreTablesInParts}
use Rattle.rib_mix.specs.steps.Unlike.{HaveCells}
use Rattle.rib_mix.specs.steps.Uses.{cell_of_two, connected_cell}
use Rattle.rib_mix.proofs.HomeLaws.{home_listed}

-- what follows where a test fails
fails_along : (test : Bool) (A B : Type 0) → (A → B) → OnFalse test A → OnFalse test B
fails_along true A B along fails = fails
fails_along false A B along fails = along fails

-- each router begins other kinds, or has those of the one before, where it is said so of their tables
pub by_lanes : (net : Network) (tables : List BothTables) (begins : List Bool) (all : List OfRouter)
    → AreBegins tables (length tables) begins → length all ≡ length tables → AreEachOwn net tables all
    → ((u : ℕ) (own : OfRouter) → slice_get all u ≡ Some own → slice_get begins u ≡ Some own.begins) → AreByLanes all
by_lanes net tables begins all are count each flags u own at =
    let both = at_place tables u (omega (arith, slice_get_within all u own at, count)) in
    let told : IsOwnAt net u both.0 own = each u own at both.0 both.1 in
    fails_along own.begins (HasKindsBefore tables u both.0) (GoesOn all u own.old_kinds.now own.new_kinds.now)
    (λ on.
    let before = at_place all on.before (omega (arith, slice_get_within tables on.before on.one on.at, count)) in
    let was : IsOwnAt net on.before on.one before.0 = each on.before before.0 before.1 on.one on.at in
    record {
      before = on.before;
      next = on.next;
      one = before.0;
      at = before.1;
      olds_are = was.tells.old_kinds_are ∙ on.same.olds ∙ sym told.tells.old_kinds_are;
      news_are = was.tells.new_kinds_are ∙ on.same.news ∙ sym told.tells.new_kinds_are;
    })
    (are.each u own.begins (flags u own at) both.0 both.1)

-- the kinds that are known are those of the router before a place
abbrev pub AreKindsBefore : List OfRouter → BothSpots → ℕ → Kinds → Type 0
AreKindsBefore all spots place kinds =
    (before : ℕ) (one : OfRouter) → place ≡ before + 1 → slice_get all before ≡ Some one → kinds ≡ kinds_of one spots

-- so where the router at the place has the same, they are its own
pub kinds_here : (all : List OfRouter) (spots : BothSpots) (place : ℕ) (own : OfRouter) (before now : Kinds)
    → slice_get all place ≡ Some own → AreByLanes all → AreKindsBefore all spots place before
    → now ≡ (if own.begins then kinds_of own spots else before) → now ≡ kinds_of own spots
kinds_here all spots place own before now at lanes known is = is ∙ by_flag own.begins (lanes place own at)
  where
    made : List ℕ → List ℕ → Kinds
    made olds news = record { old = kind_at_spot olds spots.old; new = kind_at_spot news spots.new }

    by_flag : (begins : Bool) → OnFalse begins (GoesOn all place own.old_kinds.now own.new_kinds.now)
        → (if begins then kinds_of own spots else before) ≡ kinds_of own spots
    by_flag true on = refl
    by_flag false on =
        known on.before on.one on.next on.at
        ∙ ap (λ (olds : List ℕ). made olds on.one.new_kinds.now) on.olds_are
        ∙ ap (made own.old_kinds.now) on.news_are

-- one router more has its cell
pub entry_cells_more : (all : List OfRouter) (spots : BothSpots) (up old new : List Cell) (n : ℕ) (own : OfRouter) (cell : Cell)
    → slice_get all n ≡ Some own → n < length old → cell ≡ entry_cell own spots (get_or up n no_cell) → new ≡ set old n cell
    → AreEntryCells all spots up n old → AreEntryCells all spots up (n + 1) new
entry_cells_more all spots up old new n own cell at within made is are u other below at_other = elim (cases_eq u n) [
  | inl same ↦
      let one : own ≡ other = same_Some own other (sym at ∙ subst (λ (k : ℕ). slice_get all k ≡ Some other) same at_other) in
      ap (λ (cells : List Cell). get_or cells u no_cell) is
      ∙ ap (λ (k : ℕ). get_or (set old n cell) k no_cell) same
      ∙ get_or-set_same old n cell no_cell within ∙ made
      ∙ ap (λ (o : OfRouter). entry_cell o spots (get_or up n no_cell)) one
      ∙ ap (λ (k : ℕ). entry_cell other spots (get_or up k no_cell)) (sym same)
  | inr apart ↦
      ap (λ (cells : List Cell). get_or cells u no_cell) is
      ∙ get_or-set_other old n u cell no_cell apart
      ∙ are u other (omega (arith, below, apart)) at_other
]

-- one router more is seen
pub connect_next : (seen : List ℕ) (router : ℕ) (old mid new : List Cell) → Connects seen old mid
    → new ≡ set mid router connected_cell → Connects (seen ++ router ∷ []) old new
connect_next seen router old mid new are is = record {
  count = ap length is ∙ length-set mid router connected_cell ∙ are.count;
  homes = λ u below among. elim (cases_eq u router) [
    | inl same ↦
        read u ∙ ap (λ (k : ℕ). get_or (set mid router connected_cell) k no_cell) same
        ∙ get_or-set_same mid router connected_cell no_cell (omega (arith, below, same, are.count))
    | inr apart ↦ kept u apart ∙ are.homes u below (elim (Contains-push_cases seen router u among) [
      | inl had ↦ had
      | inr same ↦ absurd (apart (sym same))
    ])
  ];
  others = λ u missed.
      kept u (λ same. missed (subst (Contains (seen ++ router ∷ [])) (sym same) (Contains-push seen router)))
      ∙ are.others u (λ among. missed (Contains-append_left seen (router ∷ []) u among));
}
  where
    read : (u : ℕ) → get_or new u no_cell ≡ get_or (set mid router connected_cell) u no_cell
    read u = ap (λ (cells : List Cell). get_or cells u no_cell) is

    kept : (u : ℕ) → u ≢ router → get_or new u no_cell ≡ get_or mid u no_cell
    kept u apart = read u ∙ get_or-set_other mid router u connected_cell no_cell apart

-- what is used for a prefix is what is used for an entry, unless it is connected
pub column_cells : (all : PlacedPrefixes) (owns : List OfRouter) (place : ℕ) (spots : BothSpots) (up entries column : List Cell)
    → spots.old ≡ get_or all.spots.olds.items place None → spots.new ≡ get_or all.spots.news.items place None
    → length entries ≡ length owns → AreEntryCells owns spots up (length owns) entries
    → Connects (get_or all.homes place []) entries column → AreColumnCells all owns place up column
column_cells all owns place spots up entries column old_is new_is long are connects u own at =
    by_home (is_home all.homes u place) refl
  where
    within : u < length owns
    within = slice_get_within owns u own at

    above : Cell
    above = get_or up u no_cell

    olds : Option ℕ → Option ℕ
    olds spot = get_or own.olds.now (kinds_of own (record { old = spot; new = spots.new })).old None

    news : Option ℕ → Option ℕ
    news spot = get_or own.news.now (kinds_of own (record { old = spots.old; new = spot })).new None

    over : Bool → Cell
    over connected =
        if connected then connected_cell
        else cell_of_two (has_in all u own place).old (has_in all u own place).new own.old_first above

    by_home : (home : Bool) → is_home all.homes u place ≡ home → get_or column u no_cell ≡ over (is_home all.homes u place)
    by_home true is =
        connects.homes u (omega (arith, within, long)) ((home_listed all.homes u place).0 is) ∙ ap over (sym is)
    by_home false is =
        connects.others u (λ among. false≢true (sym is ∙ (home_listed all.homes u place).1 among))
        ∙ are u own within at
        ∙ ap (λ (spot : Option ℕ). cell_of_two (olds spot) (news spots.new) own.old_first above) old_is
        ∙ ap (λ (spot : Option ℕ). cell_of_two (has_in all u own place).old (news spot) own.old_first above) new_is
        ∙ ap over (sym is)

-- each number of a table that has few entries has a code
have_codes : (kept : KeptTable) → IsTable kept → HasFew kept → HaveCodes kept.numbers
have_codes kept table few kind number is = omega (arith, table.numbers_below kind number is, few.entries)

-- so has each of those that count
counted_codes : (none : Bool) (numbers : List (Option ℕ)) → HaveCodes numbers → HaveCodes (if none then [] else numbers)
counted_codes true numbers have kind number is = absurd (none-some number is)
counted_codes false numbers have kind number is = have kind number is

-- and so has each number of a router's tables
pub own_codes : (routers u ospf : ℕ) (tables : List BothTables) (both : BothTables) (own : OfRouter)
    → AreTablesInParts routers tables → slice_get tables u ≡ Some both → TellsOfRouter both ospf own → HasCodes own
own_codes routers u ospf tables both own parts at is = record {
  olds = subst HaveCodes (sym is.olds_are) (counted_codes (ospf == 255) both.old.numbers.now
      (have_codes (kept_in both.old) (parts.olds u both at).table is.few_olds));
  news = subst HaveCodes (sym is.news_are) (have_codes (kept_in both.new) (parts.news u both at).table is.few_news);
}

-- so has each number of all tables
pub all_codes : (net : Network) (tables : List BothTables) (all : List OfRouter) → AreTablesInParts (length net) tables
    → AreAllOwn net tables all → HaveAllCodes all
all_codes net tables all parts are u own at =
    let both = at_place tables u (omega (arith, slice_get_within all u own at, are.count)) in
    let is = are.each u own at both.0 both.1 in
    own_codes (length net) u is.ospf tables both.0 own parts both.1 is.tells

-- each router has a cell of an earlier sort
pub parent_cells : (all : PlacedPrefixes) (owns : List OfRouter) (sorts : Sorts) (n : ℕ) (rows : List (List Cell))
    (parent : Option ℕ) → length rows ≡ length owns → AreKindRows all owns sorts n rows → IfSome parent (λ up. up < n)
    → IfSome parent (HaveCells rows)
parent_cells all owns sorts n rows None count are before = tt
parent_cells all owns sorts n rows (Some up) count are before = λ u in_rows.
    let own = at_place owns u (omega (arith, in_rows, count)) in
    omega (arith, before, (are u own.0 own.1).count)
