-- What mixed forwarding keeps of each router, as it is made and as it is read.
use Rattle.std.proofs.lemmas.Grind.{common_steps}
use Rattle.std.proofs.Common.{◌≡◌, ℕ, ◌<◌, List, [], None, IfSome, length, get_or, Contains, Some, Option, slice_get, ap, arith}
use Rattle.std.proofs.Common.{refl, sym, subst, ◌∙◌}
use Rattle.std.proofs.lemmas.Option.{slice_get_read, slice_get_within, slice_get-get_or, get_or_from_slice_get}
use Rattle.net_addr.specs.Addresses.{Block}
use Rattle.route_core.specs.Tables.{IsListed}
use Rattle.route_core.specs.declared.entry.Entry.{Entry}
use Rattle.route_core.specs.declared.table.TableParts.{TableParts}
use Rattle.route_core.proofs.TableLaws.{entry_of_prefix}
use Rattle.igp_theory.specs.Migrations.{listed_migration, migration}
use Rattle.prefix_atoms.specs.Classes.{AreClasses, Classes, SourceEntry, connected_occurs, old_occurs, new_occurs}
use Rattle.rib_mix.specs.Answers.{AddsAllBut, IsAlikeToKnown}
use Rattle.rib_mix.specs.Cells.{IsCell, cell_at}
use Rattle.rib_mix.specs.Mixture.{Mixture}
use Rattle.rib_mix.specs.Rows.{AreAllSubnets, AreRows, Ground, IsForwarding, IsRow, MixedParts, site}
use Rattle.rib_mix.specs.Sites.{AreTablesOf, table_of}
use Rattle.rib_mix.specs.steps.Sites.{prefixes_in, AllOccur}
use Rattle.rib_mix.specs.steps.Unlike.{AreBothSorts, HaveCells, HaveSameCells}
use Rattle.rib_mix.specs.declared.both_tables.BothTables.{BothTables}
use Rattle.rib_mix.specs.declared.cell.Cell.{Cell}
use Rattle.rib_mix.proofs.FoundFacts.{rows_prefixes}
use Rattle.rib_mix.proofs.ClassUses.{IsPlace, Place, alike_cells, sample}
use Rattle.rib_mix.proofs.UnlikeLaws.{added_along}
use Rattle.prefix_atoms.proofs.Pushed.{at_place}

-- the prefixes of all routers are those that occur
pub all_occur : (old new : ℕ → List (Block × Entry)) (o n : ℕ) (g : Ground) (classes : Classes) → n ≡ o
    → AreClasses (migration g.net (SourceEntry o old) (SourceEntry n new)) classes → AreTablesOf old new o g.tables → AllOccur classes.prefixes g
all_occur old new o n g classes same are tables = record {
  connected = λ u p c. (are.occur p).1 (connected_occurs u c);
  olds = λ u both at p has.
      let within : u < o = omega (arith, slice_get_within g.tables u both at, tables.count) in
      let e = listed_in both.old (old u) p (tables.olds u both at) has in
      (are.occur p).1 (old_occurs u e.0 (within, e.1));
  news = λ u both at p has.
      let within : u < n = omega (arith, slice_get_within g.tables u both at, tables.count) in
      let e = listed_in both.new (new u) p (tables.news u both at) has in
      (are.occur p).1 (new_occurs u e.0 (within, e.1));
}
  where
    listed_in : (parts : TableParts) (table : List (Block × Entry)) (p : Block) → table_of parts ≡ table → Contains (prefixes_in parts) p
        → (e : Entry) × IsListed table p e
    listed_in parts table p is has =
        let one = entry_of_prefix (table_of parts) p (subst (λ (ps : List Block). Contains ps p) (rows_prefixes parts) has) in
        (one.0, subst (λ (t : List (Block × Entry)). IsListed t p one.0) is one.1)

-- what is made of a network and two sources with its routers is what is kept
pub forwarding_made : (old new : ℕ → List (Block × Entry)) (o n : ℕ) (kept : MixedParts) → o ≡ length kept.ground.net
    → n ≡ length kept.ground.net
    → AreClasses (migration kept.ground.net (SourceEntry o old) (SourceEntry n new)) kept.classes → AreTablesOf old new o kept.ground.tables
    → AreAllSubnets kept.ground.net kept.subnets → length kept.sorts ≡ length kept.classes.samples
    → AreRows kept.ground kept.classes.samples kept.sorts kept.rows → IsForwarding old new kept
forwarding_made old new o n kept same_o same_n classes tables subnets sorts rows = grind (arith, common_steps)

-- a router with its tables, as it is kept
abbrev pub place_of : (ℕ → List (Block × Entry)) → (ℕ → List (Block × Entry)) → MixedParts → ℕ → BothTables → Place
place_of old new kept u both = record { net = kept.ground.net; old = old; new = new; classes = kept.classes; u = u; tables = both }

-- what mixed forwarding keeps for a class at a router
abbrev pub kept_cell : MixedParts → ℕ → ℕ → Cell
kept_cell kept u k = cell_at (get_or kept.rows u []) (get_or kept.sorts k None)

-- the cells of a router: what is used there for the sample of each class
pub record IsHome (p : Place) (cells : ℕ → Cell) : Type 0 where
  pub place : IsPlace p
  pub cells_are : (k : ℕ) → k < length p.classes.samples → IsCell (sample p k) (cells k)

-- the row that is kept of a router
row_at : (old new : ℕ → List (Block × Entry)) (kept : MixedParts) (u : ℕ) (both : BothTables) → IsForwarding old new kept
    → u < length kept.ground.net
    → slice_get kept.ground.tables u ≡ Some both → IsRow (site kept.ground u both) kept.classes.samples kept.sorts
    (get_or kept.rows u [])
row_at old new kept u both is router at = grind (arith, common_steps, slice_get-get_or)

-- what was read of a router's tables and of its row
pub home : (old new : ℕ → List (Block × Entry)) (kept : MixedParts) (u : ℕ) (both : BothTables) → IsForwarding old new kept
    → u < length kept.ground.net
    → both ≡ get_or kept.ground.tables u both → IsHome (place_of old new kept u both) (kept_cell kept u)
home old new kept u both is router tables =
    let at = slice_get_read kept.ground.tables (length kept.ground.tables) u both refl (omega (arith, is.tables_are.count, router)) tables in
    record {
      place = record { router = router; olds = is.tables_are.olds u both at; news = is.tables_are.news u both at; classes = is.classes_are };
      cells_are = (row_at old new kept u both is router at).each;
    }

-- what is read of its row alone: it has some tables
pub some_home : (old new : ℕ → List (Block × Entry)) (kept : MixedParts) (u : ℕ) → IsForwarding old new kept
    → u < length kept.ground.net
    → (both : BothTables) × IsHome (place_of old new kept u both) (kept_cell kept u)
some_home old new kept u is router =
    let both = at_place kept.ground.tables u (omega (arith, is.tables_are.count, router)) in
    (both.0, home old new kept u both.0 is router (sym (get_or_from_slice_get kept.ground.tables u both.0 both.0 both.1)))

-- the cell of a class can be read in what is shown of the rows and sorts
pub sort_read : (old new : ℕ → List (Block × Entry)) (kept : MixedParts) (rows : List (List Cell)) (sorts : List (Option ℕ))
    (u k : ℕ)
    → IsForwarding old new kept → rows ≡ kept.rows → sorts ≡ kept.sorts → u < length kept.ground.net
    → k < length kept.classes.samples
    → IfSome (get_or sorts k None) (λ sort. sort < length (get_or rows u []))
sort_read old new kept rows sorts u k is rows_are sorts_are router within =
    let both = at_place kept.ground.tables u (omega (arith, is.tables_are.count, router)) in
    subst (λ (rs : List (List Cell)). IfSome (get_or sorts k None) (λ sort. sort < length (get_or rs u []))) (sym rows_are)
    (subst (λ (ss : List (Option ℕ)). IfSome (get_or ss k None) (λ sort. sort < length (get_or kept.rows u []))) (sym sorts_are)
    ((row_at old new kept u both.0 is router both.1).within k within))

-- so what is read is what is used for the sample of the class
pub cell_read : (old new : ℕ → List (Block × Entry)) (kept : MixedParts) (p : Place) (rows : List (List Cell)) (sorts : List
    (Option ℕ)) (u k : ℕ)
    (cell : Cell) → IsForwarding old new kept → IsHome p (kept_cell kept u) → rows ≡ kept.rows → sorts ≡ kept.sorts
    → k < length p.classes.samples
    → cell ≡ cell_at (get_or rows u []) (get_or sorts k None) → IsCell (sample p k) cell
cell_read old new kept p rows sorts u k cell _ home rows_are sorts_are within is = grind (arith, common_steps, home, sample)

-- each router has a cell of the sort of a class
pub has_cells : (old new : ℕ → List (Block × Entry)) (kept : MixedParts) (rows : List (List Cell)) (sorts : List (Option ℕ))
    (k sort : ℕ) → IsForwarding old new kept → rows ≡ kept.rows → sorts ≡ kept.sorts → k < length kept.classes.samples
    → get_or sorts k None ≡ Some sort → HaveCells rows sort
has_cells old new kept rows sorts k sort is rows_are sorts_are within sort_is u below =
    subst (λ (o : Option ℕ). IfSome o (λ s. s < length (get_or rows u []))) sort_is
    (sort_read old new kept rows sorts u k is rows_are sorts_are (omega (arith, below, ap length rows_are, is.rows_are.count))
    within)

-- a router with the same cells for a class and for one that is known does the same for both
alike_read : (old new : ℕ → List (Block × Entry)) (kept : MixedParts) (rows : List (List Cell)) (sorts : List (Option ℕ))
    (known : Option ℕ) (class u : ℕ) (both : ℕ × ℕ) → IsForwarding old new kept → rows ≡ kept.rows → sorts ≡ kept.sorts
    → class < length kept.classes.samples → IfSome known (λ other. other < length kept.classes.samples)
    → AreBothSorts sorts known class both → u < length kept.ground.net → HaveSameCells (get_or rows u []) both
    → IsAlikeToKnown (listed_migration kept.ground.net old new) kept.classes known class u
alike_read old new kept rows sorts known class u both is rows_are sorts_are within known_within are router same =
    let here = some_home old new kept u is router in
    let row : List Cell = get_or rows u [] in
    let cell : Cell = cell_at row (Some both.0) in
    let other_within : are.other < length kept.classes.samples =
    subst (λ (o : Option ℕ). IfSome o (λ other. other < length kept.classes.samples)) are.known_is known_within in
    subst (λ (o : Option ℕ). IsAlikeToKnown (listed_migration kept.ground.net old new) kept.classes o class u) (sym are.known_is)
    (alike_cells _ are.other class cell here.1.place other_within within
    (cell_read old new kept _ rows sorts u are.other cell is here.1 rows_are sorts_are other_within
    (same ∙ ap (cell_at row) (sym are.other_is)))
    (cell_read old new kept _ rows sorts u class cell is here.1 rows_are sorts_are within (ap (cell_at row) (sym are.one_is))))

-- so where all others are added those are added that aren't known to do the same
pub adds_alike : (old new : ℕ → List (Block × Entry)) (kept : MixedParts) (rows : List (List Cell)) (sorts : List (Option ℕ))
    (known : Option ℕ) (class : ℕ) (both : ℕ × ℕ) (before after : List ℕ) → IsForwarding old new kept → rows ≡ kept.rows
    → sorts ≡ kept.sorts → class < length kept.classes.samples → IfSome known (λ other. other < length kept.classes.samples)
    → AreBothSorts sorts known class both
    → AddsAllBut (λ (u : ℕ). HaveSameCells (get_or rows u []) both) (length rows) before after
    → AddsAllBut (IsAlikeToKnown (listed_migration kept.ground.net old new) kept.classes known class) (length kept.ground.net)
    before after
adds_alike old new kept rows sorts known class both before after is rows_are sorts_are within known_within are added =
    let many : length rows ≡ length kept.ground.net = ap length rows_are ∙ is.rows_are.count in
    added_along (λ (u : ℕ). HaveSameCells (get_or rows u []) both)
    (IsAlikeToKnown (listed_migration kept.ground.net old new) kept.classes known class) (length kept.ground.net) before after
    (λ u router. alike_read old new kept rows sorts known class u both is rows_are sorts_are within known_within are router)
    (subst (λ (n : ℕ). AddsAllBut (λ (u : ℕ). HaveSameCells (get_or rows u []) both) n before after) many added)

-- the same where all are added
pub adds_routers : (Is : ℕ → Type 0) (count n : ℕ) (before after : List ℕ) → count ≡ n
    → AddsAllBut (λ (u : ℕ). ⊥) count before after → AddsAllBut Is n before after
adds_routers Is count n before after many added = grind (arith, common_steps, added_along)

-- Views

pub router_along : {O N : Type 0} (m k : Mixture O N) (u : ℕ) → m ≡ k → u < length k.net → u < length m.net
router_along {O} {N} m k u same = subst (λ (x : Mixture O N). u < length x.net) (sym same)

pub atom_along : {O N : Type 0} (m k : Mixture O N) (atom : ℕ) → m ≡ k → atom < length k.classes.samples → atom < length m.classes.samples
atom_along {O} {N} m k atom same = subst (λ (x : Mixture O N). atom < length x.classes.samples) (sym same)
