-- The way up from the longest prefix of an address: what is used there is what is used of all entries.
use lib.Dec.{ltb}
use Rattle.std.proofs.Common.{◌≡◌, ℕ, zero, suc, ◌<◌, ◌≤◌, inl, Bool, true, false, List, length, get_or, set, Option, Some, None}
use Rattle.std.proofs.Common.{Contains, IfSome, IsTrue, ◌↔◌}
use Rattle.std.proofs.Common.{ap, arith, refl, sym, subst, ◌∙◌, slice_get, ⊎_elim, eqb-true, ◌==◌, if◌then◌else◌}
use Rattle.std.proofs.lemmas.Bool.{cases_lt, eqb-false, ltb-false, ltb-true, true≢false}
use Rattle.std.proofs.lemmas.List.Elements.{All-contains}
use Rattle.std.proofs.lemmas.Option.{same_Some, slice_get_within, slice_get-get_or}
use Rattle.net_addr.specs.Addresses.{Block, ContainsAddress, IsBlock}
use Rattle.net_addr.proofs.Blocks.{same_block}
use Rattle.net_model.specs.Configuration.{Configuration}
use Rattle.net_model.specs.Network.{Network, Connected, HasConfiguration}
use Rattle.net_model.specs.Refusals.{IsNetwork}
use Rattle.route_core.specs.Rows.{kept_in, rows_in}
use Rattle.route_core.specs.Tables.{IsListed}
use Rattle.route_core.specs.declared.entry.Entry.{Entry}
use Rattle.route_core.specs.declared.table.TableParts.{TableParts}
use Rattle.route_core.proofs.RowLaws.{table_rows}
use Rattle.route_core.proofs.TableLaws.{Contains-from_place}
use Rattle.igp_theory.specs.Forwarding.{Usable, of_new, of_old, connected_counts, old_counts, new_counts}
use Rattle.igp_theory.specs.declared.phase.Phase.{Phase}
use Rattle.igp_theory.specs.declared.phase.Phase.TheVariants.{Old, Middle, New}
use Rattle.prefix_atoms.specs.Classes.{Classes, IsClassing}
use Rattle.prefix_atoms.specs.Longest.{number_at}
use Rattle.prefix_atoms.specs.Nested.{IsNextShorter, IsParent, IsTop}
use Rattle.prefix_atoms.proofs.NestedLaws.{parent_is_next}
use Rattle.prefix_atoms.proofs.Pushed.{at_place}
use Rattle.rib_mix.specs.Cells.{IsCell, IsUsable, use_in, cell_at, no_cell}
use Rattle.rib_mix.specs.Sites.{Site, table_of}
use Rattle.rib_mix.specs.steps.Sites.{CountsAt, HasOspfDistance, HasTableRows, prefixes_in}
use Rattle.rib_mix.specs.steps.Spots.{IsPlaced, number_in}
use Rattle.rib_mix.specs.steps.Sorts.{sort_at}
use Rattle.rib_mix.specs.steps.Uses.{cell_over}
use Rattle.rib_mix.specs.steps.WayUp.{AreAllCells, AreConnectedAt, AreOwnCells, IsBestUse, IsCellFor, IsOwnAmong, IsOwnNumber, IsOwnSite, Own, UpTo}
use Rattle.rib_mix.specs.steps.WayUp.{has_at, is_old_first, old_in}
use Rattle.rib_mix.specs.declared.cell.Cell.{Cell}
use Rattle.rib_mix.specs.declared.spots.Spots.{Spots}
use Rattle.rib_mix.specs.declared.used.Used.{Used}
use Rattle.rib_mix.specs.declared.used.Used.TheVariants as used
use Rattle.rib_mix.proofs.CellLaws.{AreHere, Below, IsEnd, NoneHere, OldFirst, best_along, cell_step}
use Rattle.rib_mix.proofs.FoundFacts.{entry_kept, lawful_table, prefix_listed}
use Rattle.rib_mix.proofs.OneUsed.{counts_block}
use Rattle.rib_mix.proofs.RowSteps.{among_blocks}
use Rattle.rib_mix.proofs.SpotLaws.{rows_number}
use Rattle.rib_mix.proofs.UseLaws.{use_of_best}

-- the parent of a prefix is the next shorter one, and stands before it
pub parent_of : (c : Classes) (place : ℕ) (p : Block) → IsClassing c → slice_get c.prefixes place ≡ Some p
    → IsParent c.prefixes place p (get_or c.parents place None)
parent_of c place p classing at =
    classing.nested.parents_are place p (get_or c.parents place None) at
    (slice_get-get_or c.parents place None (omega (arith, slice_get_within c.prefixes place p at, classing.nested.count)))

-- what counts at a router is for a prefix of those that it has
occurs : (prefixes : List Block) (own : Own) (s : Site) (phase : Phase) (q : Block) (d : ℕ) (x : Usable) → IsOwnSite prefixes own s → CountsAt s phase q d x
    → Contains prefixes q
occurs prefixes own s phase q d x site (connected_counts h) = site.among q h
occurs prefixes own s phase q d x site (old_counts {e = e} _ _ _ _ _ listed) = site.old_among q (prefix_listed s.tables.old q (e, listed))
occurs prefixes own s phase q d x site (new_counts {e = e} _ listed) = site.new_among q (prefix_listed s.tables.new q (e, listed))

-- the entry that a table has for a prefix counts for it at an end where all that counts is the table's, at one distance
end_here : (s : Site) (phase : Phase) (p : Block) (distance : ℕ) (parts : TableParts) (wrap : Entry → Usable) (table : ℕ → Used) (o : Option ℕ)
    → HasTableRows parts → IsOwnNumber (prefixes_in parts) (number_at (rows_in (kept_in parts))) p o
    → ((d : ℕ) (x : Usable) → CountsAt s phase p d x → ((e : Entry) × IsListed (table_of parts) p e) × (d ≡ distance))
    → ((e : Entry) → IsListed (table_of parts) p e → CountsAt s phase p distance (wrap e))
    → ((n : ℕ) (e : Entry) → slice_get parts.entries.now n ≡ Some e → IsUsable s.tables.old.entries.now s.tables.new.entries.now (table n) (wrap e))
    → IsEnd s phase p distance table o
end_here s phase p distance parts wrap table None rows none from into says = λ d x counts. none (prefix_listed parts p (from d x counts).0)
end_here s phase p distance parts wrap table (Some n) rows one from into says =
    let kept = entry_kept parts one.0 n p rows one.1 one.2 in
    record {
      entry = wrap kept.0;
      is = says n kept.0 kept.1;
      counts = into kept.0 kept.2;
      lowest = λ d x counts. let near : d ≡ distance = (from d x counts).1 in omega arith;
    }

-- the router's OSPF distance is that of its configuration
ospf_of : (s : Site) (ospf : ℕ) (c : Configuration) → HasOspfDistance s.net s.u ospf → HasConfiguration s.net s.u c → c.distances.ospf ≡ ospf
ospf_of s ospf c at has = ap (λ (k : Configuration). k.distances.ospf) (same_Some c at.config (sym has ∙ at.has)) ∙ at.distance_is

-- what is had at the place of a prefix is what counts for it
own_here : (prefixes : List Block) (own : Own) (s : Site) (i : ℕ) (p : Block) → IsOwnSite prefixes own s → slice_get prefixes i ≡ Some p
    → AreHere s p own.ospf (has_at own i)
own_here prefixes own s i p site at = by_connected (own.connected i) (site.connected i p at)
  where
    old_here : (Connected s.net s.u p → ⊥) → (most : Bool) → (own.ospf == 255) ≡ most
        → IsEnd s Old p own.ospf used.Old (if most then None else number_in own.old i)
    old_here apart true most = none
      where
        none : NoneHere s Old p
        none d x (connected_counts h) = apart h
        none d x (old_counts _ c has is set _) = set (sym is ∙ ospf_of s own.ospf c site.distance has ∙ eqb-true own.ospf 255 most)
        none d x (new_counts counts _) = absurd counts
    old_here apart false most =
        end_here s Old p own.ospf s.tables.old of_old used.Old (number_in own.old i) site.lawful.old_rows (site.old i p at) from
        (λ e listed. old_counts tt site.distance.config site.distance.has site.distance.distance_is (eqb-false own.ospf 255 most) listed)
        (λ n e stands. (e, stands, refl))
      where
        from : (d : ℕ) (x : Usable) → CountsAt s Old p d x → ((e : Entry) × IsListed (table_of s.tables.old) p e) × (d ≡ own.ospf)
        from d x (connected_counts h) = absurd (apart h)
        from d x (old_counts {e = e} _ c has is _ listed) = ((e, listed), sym is ∙ ospf_of s own.ospf c site.distance has)
        from d x (new_counts counts _) = absurd counts

    new_here : (Connected s.net s.u p → ⊥) → IsEnd s New p 115 used.New (number_in own.new i)
    new_here apart =
        end_here s New p 115 s.tables.new of_new used.New (number_in own.new i) site.lawful.new_rows (site.new i p at) from
        (λ e listed. new_counts tt listed) (λ n e stands. (e, stands, refl))
      where
        from : (d : ℕ) (x : Usable) → CountsAt s New p d x → ((e : Entry) × IsListed (table_of s.tables.new) p e) × (d ≡ 115)
        from d x (connected_counts h) = absurd (apart h)
        from d x (old_counts counts _ _ _ _ _) = absurd counts
        from d x (new_counts {e = e} _ listed) = ((e, listed), refl)

    by_connected : (is : Bool) → IsTrue is ↔ Connected s.net s.u p
        → AreHere s p own.ospf (record { connected = is; old = old_in own i; new = number_in own.new i })
    by_connected false tells =
        let apart : Connected s.net s.u p → ⊥ = λ h. true≢false (sym (tells.1 h)) in
        record { connected = apart; old = λ _. old_here apart (own.ospf == 255) refl; new = λ _. new_here apart }
    by_connected true tells = record {
      connected = tells.0 refl;
      old = λ no. absurd (true≢false no);
      new = λ no. absurd (true≢false no);
    }

-- what is used of the shorter prefixes is what is used for the parent
shorter_best : (prefixes : List Block) (own : Own) (s : Site) (len : ℕ) (o : Option ℕ) (up : Cell) → IsOwnSite prefixes own s
    → IsNextShorter prefixes len s.a o → IsCellFor prefixes own o up → (phase : Phase) → IsBestUse s (Below s phase len) (use_in up phase)
shorter_best prefixes own s len None up site none is phase = subst (λ (c : Cell). IsBestUse s (Below s phase len) (use_in c phase)) (sym is) (by_phase phase)
  where
    by_phase : (phase : Phase) → IsBestUse s (Below s phase len) (use_in no_cell phase)
    by_phase Old = inl (refl, λ q d x k. none q (occurs prefixes own s Old q d x site k.0, k.2) k.1)
    by_phase Middle = inl (refl, λ q d x k. none q (occurs prefixes own s Middle q d x site k.0, k.2) k.1)
    by_phase New = inl (refl, λ q d x k. none q (occurs prefixes own s New q d x site k.0, k.2) k.1)
shorter_best prefixes own s len (Some j) up site longest found phase =
    best_along s (UpTo s phase longest.prefix.len) (Below s phase len) (use_in up phase)
    (λ q d x k. (k.0, k.1, omega (arith, k.2, longest.match.is_offered.1)))
    (λ q d x k. (k.0, k.1, longest.match.longest q (occurs prefixes own s phase q d x site k.0, k.2) k.1))
    (found longest.prefix s longest.stands site longest.match.contains phase)

-- what is used for a prefix, of what is used for its parent
cell_more : (c : Classes) (own : Own) (place : ℕ) (p : Block) (up : Cell) (old_first : Bool) → IsClassing c → OldFirst old_first own.ospf
    → slice_get c.prefixes place ≡ Some p → IsCellFor c.prefixes own (get_or c.parents place None) up
    → IsCellFor c.prefixes own (Some place) (cell_over (has_at own place) old_first up)
cell_more c own place p up old_first classing first at above q s at_q site inside =
    let block : IsBlock q = All-contains IsBlock c.prefixes q classing.nested.blocks (Contains-from_place c.prefixes place q at_q) in
    cell_step s q own.ospf (has_at own place) old_first up
    (λ r phase d x k same_len. same_block r q s.a (counts_block s phase r d x site.lawful k.0) block same_len k.1 inside)
    inside first (own_here c.prefixes own s place q site at_q)
    (shorter_best c.prefixes own s q.len (get_or c.parents place None) up site
    (parent_is_next c.prefixes q s.a (get_or c.parents place None) block inside (parent_of c place q classing at_q).next) above)

-- what is used for the longest prefix of an address is what is used of all entries
top_cell : (prefixes : List Block) (own : Own) (s : Site) (top : Option ℕ) (cell : Cell) → IsOwnSite prefixes own s → IsTop prefixes s.a top
    → IsCellFor prefixes own top cell → IsCell s cell
top_cell prefixes own s None cell site none is = subst (IsCell s) (sym is) by_phase
  where
    nothing : (phase : Phase) (q : Block) (d : ℕ) (x : Usable) → CountsAt s phase q d x × ContainsAddress q s.a → ⊥
    nothing phase q d x k = none q (occurs prefixes own s phase q d x site k.0) k.1

    by_phase : IsCell s no_cell
    by_phase Old = use_of_best s Old used.Nothing site.lawful (inl (refl, nothing Old))
    by_phase Middle = use_of_best s Middle used.Nothing site.lawful (inl (refl, nothing Middle))
    by_phase New = use_of_best s New used.Nothing site.lawful (inl (refl, nothing New))
top_cell prefixes own s (Some place) cell site longest up = λ phase.
    use_of_best s phase (use_in cell phase) site.lawful
    (best_along s (UpTo s phase longest.prefix.len) (λ q d x. CountsAt s phase q d x × ContainsAddress q s.a) (use_in cell phase)
    (λ q d x k. (k.0, k.1)) (λ q d x k. (k.0, k.1, longest.match.longest q (occurs prefixes own s phase q d x site k.0) k.1))
    (up longest.prefix s longest.stands site longest.match.contains phase))

-- a place that stands before another one is within
pub earlier_within : (n place : ℕ) (o : Option ℕ) → place < n → IfSome o (λ k. k < place) → IfSome o (λ k. k < n)
earlier_within n place None within before = tt
earlier_within n place (Some k) within before = omega arith

-- the longest prefix of an address stands among the prefixes, and so does that of a class
top_inside : (prefixes : List Block) (a : ℕ) (o : Option ℕ) → IsTop prefixes a o → IfSome o (λ place. place < length prefixes)
top_inside prefixes a None none = tt
top_inside prefixes a (Some place) longest = slice_get_within prefixes place longest.prefix longest.stands

pub top_within : (c : Classes) (k : ℕ) → IsClassing c → k < length c.tops → IfSome (get_or c.tops k None) (λ place. place < length c.prefixes)
top_within c k classing within =
    top_inside c.prefixes (get_or c.samples k 0) (get_or c.tops k None)
    (classing.tops.each k (get_or c.tops k None) (slice_get-get_or c.tops k None within))

-- What is used for all prefixes, of what a router has

-- the one of lower distance comes first
old_first : (ospf : ℕ) (first : Bool) → ltb ospf 115 ≡ first → OldFirst first ospf
old_first ospf true is = omega (arith, ltb-true ospf 115 is)
old_first ospf false is = ltb-false ospf 115 is

-- what is used for the earlier prefixes is used for the parent of the next one
earlier_cell : (prefixes : List Block) (own : Own) (of_places : List ℕ) (cells : List Cell) (n : ℕ) (o : Option ℕ)
    → IfSome o (λ j. j < n)
    → AreAllCells prefixes own of_places cells n → IsCellFor prefixes own o (cell_at cells (sort_at of_places o))
earlier_cell prefixes own of_places cells n None before are = refl
earlier_cell prefixes own of_places cells n (Some j) before are = are j before

-- the cell of the next one's sort is what is used there, if it is made of what is had there and used for the parent
next_cell : (c : Classes) (own : Own) (of_places : List ℕ) (cells : List Cell) (n : ℕ) → IsClassing c → n < length c.prefixes
    → cell_at cells (sort_at of_places (Some n))
    ≡ cell_over (has_at own n) (is_old_first own) (cell_at cells (sort_at of_places (get_or c.parents n None)))
    → AreAllCells c.prefixes own of_places cells n → IsCellFor c.prefixes own (Some n) (cell_at cells (sort_at of_places
    (Some n)))
next_cell c own of_places cells n classing within made earlier =
    let p = at_place c.prefixes n within in
    let parent : Option ℕ = get_or c.parents n None in
    subst (IsCellFor c.prefixes own (Some n)) (sym made)
    (cell_more c own n p.0 (cell_at cells (sort_at of_places parent)) (is_old_first own) classing (old_first own.ospf
    (is_old_first own) refl) p.1
    (earlier_cell c.prefixes own of_places cells n parent (parent_of c n p.0 classing p.1).before earlier))

-- the cells of the sorts of the first places are what is used there, if each is made of what is had there and used for the parent
pub all_cells : (c : Classes) (own : Own) (of_places : List ℕ) (cells : List Cell) → IsClassing c
    → ((i : ℕ) → i < length c.prefixes → cell_at cells (sort_at of_places (Some i))
    ≡ cell_over (has_at own i) (is_old_first own) (cell_at cells (sort_at of_places (get_or c.parents i None))))
    → (n : ℕ) → n ≤ length c.prefixes → AreAllCells c.prefixes own of_places cells n
all_cells c own of_places cells classing made zero fits place below = absurd (omega arith)
all_cells c own of_places cells classing made (suc n) fits place below =
    let earlier : AreAllCells c.prefixes own of_places cells n = all_cells c own of_places cells classing made n (omega arith) in
    let within : n < length c.prefixes = omega arith in
    ⊎_elim
    (λ (l : place < n). earlier place l)
    (λ (l : n ≤ place).
    let same : n ≡ place = omega arith in
    subst (λ (j : ℕ). IsCellFor c.prefixes own (Some j) (cell_at cells (sort_at of_places (Some j)))) same
    (next_cell c own of_places cells n classing within (made n within) earlier))
    (cases_lt place n)

-- so at the place of the longest prefix of an address there is what the router uses for it
pub own_cells : (c : Classes) (net : Network) (u : ℕ) (spots : Spots) (own : Own) (of_places : List ℕ) (cells : List Cell)
    → IsClassing c → IsNetwork net → HasOspfDistance net u own.ospf
    → IsOwnAmong c.prefixes net u (record { old = own.old.parts; new = own.new.parts }) spots
    → AreConnectedAt net u c.prefixes own.connected → IsPlaced c.prefixes own.old → IsPlaced c.prefixes own.new
    → AreAllCells c.prefixes own of_places cells (length c.prefixes)
    → AreOwnCells c.prefixes of_places
    (λ a. record { net = net; u = u; tables = record { old = own.old.parts; new = own.new.parts }; a = a }) cells
own_cells c net u spots own of_places cells classing network distance among connected old new are a top is_top =
    top_cell c.prefixes own s top (cell_at cells (sort_at of_places top)) site is_top
    (earlier_cell c.prefixes own of_places cells (length c.prefixes) top (top_inside c.prefixes a top is_top) are)
  where
    s : Site
    s = record { net = net; u = u; tables = record { old = own.old.parts; new = own.new.parts }; a = a }

    old_rows : HasTableRows own.old.parts
    old_rows = table_rows (kept_in own.old.parts) among.old_table

    new_rows : HasTableRows own.new.parts
    new_rows = table_rows (kept_in own.new.parts) among.new_table

    site : IsOwnSite c.prefixes own s
    site = record {
      lawful = record {
        network = network;
        old = lawful_table own.old.parts old_rows (among_blocks c.prefixes (prefixes_in own.old.parts) classing.nested.blocks among.old);
        new = lawful_table own.new.parts new_rows (among_blocks c.prefixes (prefixes_in own.new.parts) classing.nested.blocks among.new);
        old_rows = old_rows;
        new_rows = new_rows;
      };
      distance = distance;
      among = among.connected;
      old_among = among.old;
      new_among = among.new;
      connected = connected;
      old = rows_number c.prefixes own.old old;
      new = rows_number c.prefixes own.new new;
    }
