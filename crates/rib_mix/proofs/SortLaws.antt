-- Prefixes of one sort: what a router has for one it has for the other, and so the cells of sorts are those of prefixes.
use Rattle.std.proofs.lemmas.Grind.{common_steps}
use lib.Dec.{ltb}
use Rattle.std.proofs.Common.{◌≡◌, ℕ, ◌+◌, ◌<◌, ◌≤◌, ◌++◌, ◌∷◌, ◌==◌, [], IfSome}
use Rattle.std.proofs.Common.{⊎_elim, if◌then◌else◌, Bool, true, false, List, Option}
use Rattle.std.proofs.Common.{Some, None, length, get_or}
use Rattle.std.proofs.Common.{ap, arith, refl, sym, subst, ◌∙◌}
use Rattle.prefix_atoms.proofs.Pushed.{count_more}
use Rattle.std.proofs.lemmas.Bool.{cases_lt}
use Rattle.std.proofs.lemmas.List.{get_or_append_left, get_or_push}
use Rattle.rib_mix.specs.steps.Likeness.{AreLikeAt, HaveSame, PlacedPrefixes}
use Rattle.rib_mix.specs.steps.Homes.{is_home}
use Rattle.rib_mix.specs.steps.Sorts.{AreSorts, sort_at}
use Rattle.rib_mix.specs.steps.OwnCells.{AreKindCells, TellsOfRouter, has_in, kind_at_spot}
use Rattle.rib_mix.specs.steps.Spots.{IsPlaced}
use Rattle.rib_mix.proofs.SortSteps.{still_before}
use Rattle.rib_mix.specs.Cells.{cell_at, no_cell}
use Rattle.rib_mix.specs.steps.Uses.{Has, cell_of_two, cell_over}
use Rattle.rib_mix.specs.steps.WayUp.{AreSortCells, Own, has_at}
use Rattle.rib_mix.specs.declared.both_tables.BothTables.{BothTables}
use Rattle.rib_mix.specs.declared.cell.Cell.{Cell}
use Rattle.rib_mix.specs.declared.own.OfRouter.{OfRouter}
use Rattle.rib_mix.specs.declared.sorts.Sorts.{Sorts}
use Rattle.rib_mix.specs.declared.spots.Spots.{Spots}
use Rattle.rib_mix.specs.declared.used.Used.TheVariants.{Connected}
use Rattle.net_addr.specs.Addresses.{Block}
use Rattle.rib_mix.proofs.SpotLaws.{number_of_kind}

-- sorts by one likeness are sorts by each that follows from it
pub sorts_along : (like other : ℕ → ℕ → Type 0) (parents : List (Option ℕ)) (n : ℕ) (sorts : Sorts) → ((i j : ℕ) → like i j
    → other i j)
    → AreSorts like parents n sorts → AreSorts other parents n sorts
sorts_along like other parents n sorts along are = grind (arith, common_steps)

-- what router u has, with these tables and this distance, by the homes of the prefixes
abbrev pub own_of : Spots → List (List ℕ) → ℕ → BothTables → ℕ → Own
own_of spots homes u both ospf = record {
  connected = is_home homes u;
  old = record { spots = spots.olds.items; parts = both.old };
  new = record { spots = spots.news.items; parts = both.new };
  ospf = ospf;
}

-- for two prefixes that are alike at a router it has the same
same_has : (all : PlacedPrefixes) (u : ℕ) (both : BothTables) (ospf i j : ℕ) → AreLikeAt all both i j
    → HaveSame (has_at (own_of all.spots all.homes u both ospf) i) (has_at (own_of all.spots all.homes u both ospf) j)
same_has all u both ospf i j like = grind (arith, common_steps)

-- who has the same uses the same
same_over : (one other : Has) (first : Bool) (up : Cell) → HaveSame one other → cell_over one first up ≡ cell_over other first up
same_over one other first up same =
    ap (λ (is : Bool). if is then both else cell_of_two one.old one.new first up) same.connected
    ∙ ap (λ (n : Option ℕ). if other.connected then both else cell_of_two n one.new first up) same.old
    ∙ ap (λ (n : Option ℕ). if other.connected then both else cell_of_two other.old n first up) same.new
  where
    both : Cell
    both = record { middle = Connected; other = Connected }

-- the cell of a prefix's sort is made of what is had for the prefix and used for its parent's sort
pub sort_cell : (all : PlacedPrefixes) (u : ℕ) (both : BothTables) (ospf : ℕ) (parents : List (Option ℕ)) (sorts : Sorts)
    (cells : List Cell) → AreSorts (AreLikeAt all both) parents (length parents) sorts
    → AreSortCells (own_of all.spots all.homes u both ospf) sorts (length sorts.firsts.items) cells
    → (i : ℕ) → i < length parents → cell_at cells (sort_at sorts.of_places.items (Some i))
    ≡ cell_over (has_at (own_of all.spots all.homes u both ospf) i) (ltb ospf 115)
    (cell_at cells (sort_at sorts.of_places.items (get_or parents i None)))
sort_cell all u both ospf parents sorts cells are cells_are i within = grind (arith, common_steps, same_has, same_over)

-- of so many numbers, or of none, the one of a kind
counted : (none : Bool) (numbers : List (Option ℕ)) (kind : ℕ)
    → get_or (if none then [] else numbers) kind None ≡ (if none then None else get_or numbers kind None)
counted true numbers kind = refl
counted false numbers kind = refl

-- the cells that are made by the kinds of the first prefixes are those of the sorts
pub sort_cells : (prefixes : List Block) (all : PlacedPrefixes) (sorts : Sorts) (u : ℕ) (both : BothTables) (ospf : ℕ)
    (own : OfRouter) (cells : List Cell)
    → ((sort : ℕ) → sort < length sorts.firsts.items → get_or sorts.firsts.items sort 0 < length prefixes)
    → IsPlaced prefixes (record { spots = all.spots.olds.items; parts = both.old })
    → IsPlaced prefixes (record { spots = all.spots.news.items; parts = both.new })
    → TellsOfRouter both ospf own → AreKindCells all u own sorts (length sorts.firsts.items) cells
    → AreSortCells (own_of all.spots all.homes u both ospf) sorts (length sorts.firsts.items) cells
sort_cells prefixes all sorts u both ospf own cells firsts olds news is are = record {
  count = are.count;
  each = λ sort below.
      let first : ℕ = get_or sorts.firsts.items sort 0 in
      let up : Cell = cell_at cells (get_or sorts.parents.items sort None) in
      are.each sort below
      ∙ ap (λ (b : Bool). cell_over (has_in all u own first) b up) is.first
      ∙ same_over (has_in all u own first) (has_at (own_of all.spots all.homes u both ospf) first) (ltb ospf 115) up (record {
        connected = refl;
        old = number_old first ∙ ap (λ (o : Option ℕ). if ospf == 255 then None else o) (number_of_kind prefixes
            (record { spots = all.spots.olds.items; parts = both.old }) first olds (firsts sort below) is.few_olds.kinds);
        new = number_new first ∙ number_of_kind prefixes
            (record { spots = all.spots.news.items; parts = both.new }) first news (firsts sort below) is.few_news.kinds;
      });
}
  where
    number_old : (first : ℕ) → (has_in all u own first).old ≡ (if ospf == 255 then None else
        get_or both.old.numbers.now (kind_at_spot both.old.kinds.now (get_or all.spots.olds.items first None)) None)
    number_old first =
        ap (λ (kinds : List ℕ). get_or own.olds.now (kind_at_spot kinds (get_or all.spots.olds.items first None)) None)
        is.old_kinds_are
        ∙ ap (λ (numbers : List (Option ℕ)). get_or numbers
        (kind_at_spot both.old.kinds.now (get_or all.spots.olds.items first None)) None) is.olds_are
        ∙ counted (ospf == 255) both.old.numbers.now (kind_at_spot both.old.kinds.now (get_or all.spots.olds.items first None))

    number_new : (first : ℕ) → (has_in all u own first).new ≡
        get_or both.new.numbers.now (kind_at_spot both.new.kinds.now (get_or all.spots.news.items first None)) None
    number_new first =
        ap (λ (kinds : List ℕ). get_or own.news.now (kind_at_spot kinds (get_or all.spots.news.items first None)) None)
        is.new_kinds_are
        ∙ ap (λ (numbers : List (Option ℕ)). get_or numbers
        (kind_at_spot both.new.kinds.now (get_or all.spots.news.items first None)) None) is.news_are

-- one sort more
pub cells_more : (all : PlacedPrefixes) (u : ℕ) (own : OfRouter) (sorts : Sorts) (n : ℕ) (old new : List Cell) (next : Cell)
    → IfSome (get_or sorts.parents.items n None) (λ up. up < n)
    → ((sort : ℕ) → sort < n → IfSome (get_or sorts.parents.items sort None) (λ up. up < sort))
    → next ≡ cell_over (has_in all u own (get_or sorts.firsts.items n 0)) own.old_first
    (cell_at old (get_or sorts.parents.items n None))
    → new ≡ old ++ next ∷ [] → AreKindCells all u own sorts n old → AreKindCells all u own sorts (n + 1) new
cells_more all u own sorts n old new next here before made is are = record {
  count = count_more old new next n are.count is;
  each = λ sort below. subst (λ (cells : List Cell). get_or cells sort no_cell ≡ made_of cells sort) (sym is) (⊎_elim
      (λ (l : sort < n).
      get_or_append_left old (next ∷ []) no_cell sort (omega (arith, l, are.count)) ∙ are.each sort l
      ∙ sym (kept sort (omega arith) (before sort l)))
      (λ (l : n ≤ sort). subst (λ (k : ℕ). get_or (old ++ next ∷ []) k no_cell ≡ made_of (old ++ next ∷ []) k)
      (omega (arith, l, below)) (get_or_push old next no_cell n are.count ∙ made ∙ sym (kept n (omega arith) here)))
      (cases_lt sort n));
}
  where
    made_of : List Cell → ℕ → Cell
    made_of cells sort =
        cell_over (has_in all u own (get_or sorts.firsts.items sort 0)) own.old_first
        (cell_at cells (get_or sorts.parents.items sort None))

    same_cell : (o : Option ℕ) → IfSome o (λ up. up < length old) → cell_at (old ++ next ∷ []) o ≡ cell_at old o
    same_cell None within = refl
    same_cell (Some up) within = get_or_append_left old (next ∷ []) no_cell up within

    kept : (sort : ℕ) → sort ≤ n → IfSome (get_or sorts.parents.items sort None) (λ up. up < sort)
        → made_of (old ++ next ∷ []) sort ≡ made_of old sort
    kept sort below earlier =
        ap (cell_over (has_in all u own (get_or sorts.firsts.items sort 0)) own.old_first)
        (same_cell (get_or sorts.parents.items sort None)
        (still_before (length old) sort (get_or sorts.parents.items sort None) (omega (arith, below, are.count)) earlier))
