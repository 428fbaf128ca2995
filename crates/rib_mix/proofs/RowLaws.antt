-- What a router has, and what it uses for each class.
use Rattle.std.proofs.Common.{◌≡◌, ℕ, ◌<◌, List, Option, None, Some, IfSome, length, map, get_or, slice_get, arith, sym, subst}
use Rattle.std.proofs.Common.{◌∙◌}
use Rattle.std.proofs.lemmas.Option.{slice_get_within, slice_get-get_or}
use Rattle.net_addr.specs.Addresses.{Block}
use Rattle.prefix_atoms.proofs.Pushed.{at_place}
use Rattle.prefix_atoms.specs.Classes.{Classes, IsClassing}
use Rattle.prefix_atoms.specs.Nested.{IsTop}
use Rattle.rib_mix.specs.steps.Spots.{AreSharedSpots, AreSpots, AreTableSpots, IsPlaced}
use Rattle.rib_mix.specs.steps.Homes.{AreNetHomes}
use Rattle.rib_mix.specs.steps.Likeness.{AreLike, AreLikeAt, PlacedPrefixes}
use Rattle.rib_mix.specs.steps.WayUp.{AreOwnCells, IsOwnAmong, Own}
use Rattle.rib_mix.specs.steps.OwnCells.{AreKindCells, IsOwnAt}
use Rattle.rib_mix.specs.steps.Sorts.{AreSorts, sort_at}
use Rattle.std.proofs.Math.ListN.{get_or-map}
use Rattle.rib_mix.proofs.SortSteps.{sort_inside}
use Rattle.rib_mix.proofs.HomeLaws.{connected_at}
use Rattle.rib_mix.proofs.SortLaws.{own_of, sort_cell, sort_cells, sorts_along}
use Rattle.rib_mix.proofs.UpLaws.{all_cells, own_cells, top_within}
use Rattle.rib_mix.specs.Cells.{IsCell, cell_at}
use Rattle.rib_mix.specs.Rows.{Ground, IsRow, site}
use Rattle.rib_mix.specs.Sites.{Site}
use Rattle.rib_mix.specs.steps.Sites.{AreTablesInParts, AllOccur}
use Rattle.rib_mix.specs.declared.both_tables.BothTables.{BothTables}
use Rattle.rib_mix.specs.declared.cell.Cell.{Cell}
use Rattle.rib_mix.specs.declared.own.OfRouter.{OfRouter}
use Rattle.rib_mix.specs.declared.sorts.Sorts.{Sorts}
use Rattle.rib_mix.specs.declared.spots.Spots.{Spots}

-- the tables of all routers share their prefixes, and so their spots
shared_spots : (prefixes : List Block) (routers u : ℕ) (tables : List BothTables) (both : BothTables) (spots : Spots) → AreTablesInParts routers tables
    → slice_get tables u ≡ Some both → AreSharedSpots prefixes tables spots
    → AreTableSpots prefixes both spots
shared_spots prefixes routers u tables both spots parts at are =
    let first = at_place tables 0 (omega (arith, slice_get_within tables u both at)) in
    let of_first = are first.0 first.1 in
    record {
      olds = subst (λ (ps : List Block). AreSpots prefixes ps (length ps) spots.olds.items)
          ((parts.olds 0 first.0 first.1).prefixes_are ∙ sym (parts.olds u both at).prefixes_are) of_first.olds;
      news = subst (λ (ps : List Block). AreSpots prefixes ps (length ps) spots.news.items)
          ((parts.news 0 first.0 first.1).prefixes_are ∙ sym (parts.news u both at).prefixes_are) of_first.news;
    }

-- what a router has is among the prefixes that occur
own_among : (prefixes : List Block) (g : Ground) (u : ℕ) (both : BothTables) (spots : Spots)
    → AreTablesInParts (length g.net) g.tables → AllOccur prefixes g → slice_get g.tables u ≡ Some both
    → AreSharedSpots prefixes g.tables spots → IsOwnAmong prefixes g.net u both spots
own_among prefixes g u both spots parts occur at are = record {
  connected = λ p connected. occur.connected u p connected;
  old = occur.olds u both at;
  new = occur.news u both at;
  old_table = (parts.olds u both at).table;
  new_table = (parts.news u both at).table;
  spots_are = shared_spots prefixes (length g.net) u g.tables both spots parts at are;
}

-- what is used for the sort of the longest prefix of each class makes the row of a router
row_made : (at : ℕ → Site) (classes : Classes) (of_places : List ℕ) (cells : List Cell) → IsClassing classes
    → length of_places ≡ length classes.prefixes
    → ((i : ℕ) → i < length of_places → get_or of_places i 0 < length cells)
    → AreOwnCells classes.prefixes of_places at cells
    → IsRow at classes.samples (map (sort_at of_places) classes.tops) cells
row_made at classes of_places cells classing long below are = record {
  within = λ k in_k.
      subst (λ (o : Option ℕ). IfSome o (λ sort. sort < length cells)) (sym (sort_is k))
      (sort_inside of_places (length cells) (get_or classes.tops k None) below
      (subst (λ (n : ℕ). IfSome (get_or classes.tops k None) (λ place. place < n)) (sym long)
      (top_within classes k classing (omega (arith, in_k, classing.tops.count)))));
  each = λ k in_k.
      let a : ℕ = get_or classes.samples k 0 in
      let top : Option ℕ = get_or classes.tops k None in
      let is_top : IsTop classes.prefixes a top = classing.tops.each k top (slice_get-get_or classes.tops k None (omega
      (arith, in_k, classing.tops.count))) in
      subst (λ (o : Option ℕ). IsCell (at a) (cell_at cells o)) (sym (sort_is k)) (are a top is_top);
}
  where
    sort_is : (k : ℕ) → get_or (map (sort_at of_places) classes.tops) k None ≡ sort_at of_places (get_or classes.tops k None)
    sort_is k = get_or-map (sort_at of_places) classes.tops k None

-- what is known of what serves all routers
pub record IsServing (g : Ground) (classes : Classes) (spots : Spots) (homes : List (List ℕ)) (sorts : Sorts) : Type 0 where
  pub tables_are : AreTablesInParts (length g.net) g.tables
  pub occur : AllOccur classes.prefixes g
  pub classing : IsClassing classes
  pub spots_are : AreSharedSpots classes.prefixes g.tables spots
  pub homes_are : AreNetHomes g.net classes.prefixes homes
  pub sorts_are : AreSorts (AreLike (record { spots = spots; homes = homes }) g.tables) classes.parents (length classes.parents) sorts

-- the cells of a router that are made by them are its row
pub row_of_cells : (g : Ground) (classes : Classes) (spots : Spots) (homes : List (List ℕ)) (sorts : Sorts) (u : ℕ)
    (both : BothTables) (own : OfRouter) (cells : List Cell)
    → IsServing g classes spots homes sorts → slice_get g.tables u ≡ Some both → IsOwnAt g.net u both own
    → AreKindCells (record { spots = spots; homes = homes }) u own sorts (length sorts.firsts.items) cells
    → IsRow (site g u both) classes.samples (map (sort_at sorts.of_places.items) classes.tops) cells
row_of_cells g classes spots homes sorts u both own cells is at own_is made =
    row_made (site g u both) classes sorts.of_places.items cells is.classing (is.sorts_are.count ∙ is.classing.nested.count)
    (λ i below. omega (arith, is.sorts_are.sorting.within i below, made.count))
    (own_cells classes g.net u spots has sorts.of_places.items cells is.classing own_is.network own_is.distance among
    (connected_at g.net u classes.prefixes homes is.homes_are) olds news
    (all_cells classes has sorts.of_places.items cells is.classing
    (λ i below. sort_cell all u both own_is.ospf classes.parents sorts cells
    (sorts_along (AreLike all g.tables) (AreLikeAt all both) classes.parents (length classes.parents) sorts
    (λ i j like. like u both at) is.sorts_are)
    (sort_cells classes.prefixes all sorts u both own_is.ospf own cells
    (λ sort within. omega (arith, is.sorts_are.sorting.firsts sort within, is.classing.nested.count)) olds news
    own_is.tells made) i
    (omega (arith, below, is.classing.nested.count)))
    (length classes.prefixes) (omega arith)))
  where
    all : PlacedPrefixes
    all = record { spots = spots; homes = homes }

    has : Own
    has = own_of spots homes u both own_is.ospf

    among : IsOwnAmong classes.prefixes g.net u both spots
    among = own_among classes.prefixes g u both spots is.tables_are is.occur at is.spots_are

    olds : IsPlaced classes.prefixes has.old
    olds = record { kept = among.old_table; spots = among.spots_are.olds }

    news : IsPlaced classes.prefixes has.new
    news = record { kept = among.new_table; spots = among.spots_are.news }
