-- What is used for the sample of a class is used for each of its addresses, and says what a router does with their packets.
use Rattle.std.proofs.Common.{◌≡◌, ℕ, ◌<◌, ◌⊎◌, ◌↔◌, inl, inr, List, length, get_or, Contains, refl, sym, subst}
use Rattle.std.proofs.lemmas.Option.{slice_get-get_or}
use Rattle.net_addr.specs.Addresses.{Block, ContainsAddress}
use Rattle.net_model.specs.Network.{Network}
use Rattle.route_core.specs.Tables.{IsListed}
use Rattle.route_core.specs.declared.entry.Entry.{Entry}
use Rattle.route_core.specs.declared.entry.Entry.TheVariants.{Discard}
use Rattle.igp_theory.specs.Forwarding.{Usable, connected, of_old, of_new, Counts, connected_counts, old_counts, new_counts, Uses, Kind}
use Rattle.igp_theory.specs.Migrations.{Migration, migration, listed_migration}
use Rattle.igp_theory.specs.declared.phase.Phase.{Phase}
use Rattle.igp_theory.specs.declared.phase.Phase.TheVariants.{Old, Middle, New}
use Rattle.prefix_atoms.specs.Classes.{Classes, AreClasses, SourceEntry, connected_occurs, old_occurs, new_occurs, IsInClass}
use Rattle.rib_mix.specs.Answers.{IsAlikeAt, IsNextAtAnEnd, IsNextOf, Says}
use Rattle.rib_mix.specs.Cells.{IsCell, IsUsable, IsUse, first_if_new, first_unless_new, use_in}
use Rattle.rib_mix.specs.steps.Uses.{ShowsUse}
use Rattle.rib_mix.specs.Sites.{Site, UsesAt, table_of}
use Rattle.rib_mix.specs.steps.Sites.{CountsAt}
use Rattle.rib_mix.specs.declared.both_tables.BothTables.{BothTables}
use Rattle.rib_mix.specs.declared.cell.Cell.{Cell}
use Rattle.rib_mix.specs.declared.next.Next.{Next}
use Rattle.rib_mix.specs.declared.next.Next.TheVariants.{Absent}
use Rattle.rib_mix.specs.declared.used.Used.{Used}
use Rattle.rib_mix.specs.declared.used.Used.TheVariants as used

-- what is of this kind is of that kind
abbrev pub Within : Kind → Kind → Type 0
Within one two = (q : Block) (d : ℕ) (x : Usable) → one q d x → two q d x

-- a router of a network, with its tables in their parts; the tables of all routers, and their classes
pub record Place : Type 0 where
  pub net : Network
  pub old : ℕ → List (Block × Entry)
  pub new : ℕ → List (Block × Entry)
  pub classes : Classes
  pub u : ℕ
  pub tables : BothTables

-- the router is one of the network's, the tables are its own, and the classes are those of all tables
pub record IsPlace (p : Place) : Type 0 where
  pub router : p.u < length p.net
  pub olds : table_of p.tables.old ≡ p.old p.u
  pub news : table_of p.tables.new ≡ p.new p.u
  pub classes : AreClasses (migration p.net (SourceEntry (length p.net) p.old) (SourceEntry (length p.net) p.new)) p.classes

abbrev pub move_of : Place → Migration
move_of p = listed_migration p.net p.old p.new

-- where an answer is asked for: for the sample of class k
abbrev pub sample : Place → ℕ → Site
sample p k = record { net = p.net; u = p.u; tables = p.tables; a = get_or p.classes.samples k 0 }

-- what counts over a router's tables counts over the same ones
counts_over : (net : Network) (old new olds news : ℕ → List (Block × Entry)) (u : ℕ) (phase : Phase) → old u ≡ olds u → new u ≡ news u
    → Within (Counts (listed_migration net old new) u phase) (Counts (listed_migration net olds news) u phase)
counts_over net old new olds news u phase is_old is_new q d x (connected_counts h) = connected_counts h
counts_over net old new olds news u phase is_old is_new q d x (old_counts {e = e} counts c has at set listed) =
    old_counts counts c has at set (subst (λ (t : List (Block × Entry)). IsListed t q e) is_old listed)
counts_over net old new olds news u phase is_old is_new q d x (new_counts {e = e} counts listed) =
    new_counts counts (subst (λ (t : List (Block × Entry)). IsListed t q e) is_new listed)

-- the prefix of an entry that counts is one of the classes'
counting_prefix : (p : Place) (phase : Phase) (q : Block) (d : ℕ) (x : Usable) → IsPlace p → Counts (move_of p) p.u phase q d x
    → Contains p.classes.prefixes q
counting_prefix p phase q d x is (connected_counts h) = (is.classes.occur q).1 (connected_occurs p.u h)
counting_prefix p phase q d x is (old_counts {e = e} _ _ _ _ _ listed) = (is.classes.occur q).1 (old_occurs p.u e (is.router, listed))
counting_prefix p phase q d x is (new_counts {e = e} _ listed) = (is.classes.occur q).1 (new_occurs p.u e (is.router, listed))

-- what a router uses for the sample of a class it uses for each of its addresses, and the other way round
class_uses : (p : Place) (phase : Phase) (k a : ℕ) (x : Usable) → IsPlace p → IsInClass p.classes k a
    → UsesAt (sample p k) phase x ↔ Uses (move_of p) p.u phase a x
class_uses p phase k a x is inside = (
  λ uses. record {
    prefix = uses.prefix;
    distance = uses.distance;
    counts = all uses.prefix uses.distance x uses.counts;
    contains = (alike uses.prefix uses.distance x (all uses.prefix uses.distance x uses.counts)).0 uses.contains;
    longest = λ q d y counts contains. uses.longest q d y (own q d y counts) ((alike q d y counts).1 contains);
    lowest = λ q d y counts contains. uses.lowest q d y (own q d y counts) ((alike q d y counts).1 contains);
  },
  λ uses. record {
    prefix = uses.prefix;
    distance = uses.distance;
    counts = own uses.prefix uses.distance x uses.counts;
    contains = (alike uses.prefix uses.distance x uses.counts).1 uses.contains;
    longest = λ q d y counts contains. uses.longest q d y (all q d y counts) ((alike q d y (all q d y counts)).0 contains);
    lowest = λ q d y counts contains. uses.lowest q d y (all q d y counts) ((alike q d y (all q d y counts)).0 contains);
  },
)
  where
    olds : ℕ → List (Block × Entry)
    olds _ = table_of p.tables.old

    news : ℕ → List (Block × Entry)
    news _ = table_of p.tables.new

    own : Within (Counts (move_of p) p.u phase) (CountsAt (sample p k) phase)
    own = counts_over p.net p.old p.new olds news p.u phase (sym is.olds) (sym is.news)

    all : Within (CountsAt (sample p k) phase) (Counts (move_of p) p.u phase)
    all = counts_over p.net olds news p.old p.new p.u phase is.olds is.news

    alike : (q : Block) (d : ℕ) (y : Usable) → Counts (move_of p) p.u phase q d y
        → ContainsAddress q (get_or p.classes.samples k 0) ↔ ContainsAddress q a
    alike q d y counts = inside.alike q (counting_prefix p phase q d y is counts)

-- an answer that shows what is used alone is what the router does
shows_says : (olds news : List Entry) (way : Used) (next : Next) (x : Usable) → ShowsUse olds news way next → IsUsable olds news way x → Says next x
shows_says olds news used.Nothing next x shows is = absurd is
shows_says olds news used.Connected next x shows is = subst (Says next) (sym is) shows
shows_says olds news (used.Old number) next x shows is = subst (Says next) (sym is.2) (shows is.0 is.1)
shows_says olds news (used.New number) next x shows is = subst (Says next) (sym is.2) (shows is.0 is.1)

-- the answer that shows what is used alone for the sample of a class is the answer for the class
pub answer_of : (p : Place) (k : ℕ) (phase : Phase) (way : Used) (next : Next) → IsPlace p → IsUse (sample p k) phase way
    → ShowsUse p.tables.old.entries.now p.tables.new.entries.now way next → IsNextOf (move_of p) p.classes p.u k phase next
answer_of p k phase way next is alone shows = λ a inside. record {
  there = there a inside way alone shows;
  only = λ x uses. shows_says olds news way next x shows ((alone.exact x).0 ((class_uses p phase k a x is inside).1 uses));
}
  where
    olds : List Entry
    olds = p.tables.old.entries.now

    news : List Entry
    news = p.tables.new.entries.now

    there : (a : ℕ) → IsInClass p.classes k a → (way : Used) → IsUse (sample p k) phase way → ShowsUse olds news way next
        → (next ≡ Absent) ⊎ ((x : Usable) × Uses (move_of p) p.u phase a x × Says next x)
    there a inside used.Nothing alone shows = inl shows
    there a inside used.Connected alone shows =
        inr (connected, (class_uses p phase k a connected is inside).0 ((alone.exact connected).1 refl), shows)
    there a inside (used.Old number) alone shows =
        let at = slice_get-get_or olds number Discard alone.within in
        let x : Usable = of_old (get_or olds number Discard) in
        inr (x, (class_uses p phase k a x is inside).0 ((alone.exact x).1 (_, at, refl)), shows _ at)
    there a inside (used.New number) alone shows =
        let at = slice_get-get_or news number Discard alone.within in
        let x : Usable = of_new (get_or news number Discard) in
        inr (x, (class_uses p phase k a x is inside).0 ((alone.exact x).1 (_, at, refl)), shows _ at)

-- what is used in Middle is what is used in Old or in New, and so is the answer
pub middle_answer : (p : Place) (k : ℕ) (cell : Cell) (next : Next) → IsPlace p → IsCell (sample p k) cell
    → ShowsUse p.tables.old.entries.now p.tables.new.entries.now (use_in cell Middle) next → IsNextAtAnEnd (move_of p) p.classes p.u k next
middle_answer p k cell next is uses shows = by_middle cell.middle shows (uses Old) (uses New)
  where
    by_middle : (middle : Used) → ShowsUse p.tables.old.entries.now p.tables.new.entries.now middle next
        → IsUse (sample p k) Old (first_unless_new middle cell.other) → IsUse (sample p k) New (first_if_new middle cell.other)
        → IsNextAtAnEnd (move_of p) p.classes p.u k next
    by_middle used.Nothing shown old new = inl (answer_of p k Old used.Nothing next is old shown)
    by_middle used.Connected shown old new = inl (answer_of p k Old used.Connected next is old shown)
    by_middle (used.Old n) shown old new = inl (answer_of p k Old (used.Old n) next is old shown)
    by_middle (used.New n) shown old new = inr (answer_of p k New (used.New n) next is new shown)

-- the answer for a class is the answer for each class with the same cell
one_way : (p : Place) (k j : ℕ) (cell : Cell) → IsPlace p → k < length p.classes.samples → IsCell (sample p k) cell → IsCell (sample p j) cell
    → (phase : Phase) (next : Next) → IsNextOf (move_of p) p.classes p.u k phase next → IsNextOf (move_of p) p.classes p.u j phase next
one_way p k j cell is within at_k at_j phase next answer b inside =
    let first : ℕ = get_or p.classes.samples k 0 in
    let sampled : IsInClass p.classes k first = record {
      class = within;
      address = is.classes.classing.samples.addresses k 0 within;
      alike = λ q member. (λ h. h, λ h. h);
    } in
    let same : (x : Usable) → Uses (move_of p) p.u phase first x ↔ Uses (move_of p) p.u phase b x = λ x. (
      λ h. (class_uses p phase j b x is inside).0 (((at_j phase).exact x).1 (((at_k phase).exact x).0 ((class_uses p phase k first x is sampled).1 h))),
      λ h. (class_uses p phase k first x is sampled).0 (((at_k phase).exact x).1 (((at_j phase).exact x).0 ((class_uses p phase j b x is inside).1 h))),
    ) in
    record {
      there = elim (answer first sampled).there [
        | inl absent ↦ inl absent
        | inr says ↦ inr (says.0, (same says.0).0 says.1, says.2)
      ];
      only = λ x uses. (answer first sampled).only x ((same x).1 uses);
    }

-- classes with the same cell are alike at a router
pub alike_cells : (p : Place) (k j : ℕ) (cell : Cell) → IsPlace p → k < length p.classes.samples → j < length p.classes.samples
    → IsCell (sample p k) cell → IsCell (sample p j) cell → IsAlikeAt (move_of p) p.classes p.u k j
alike_cells p k j cell is in_k in_j at_k at_j =
    λ phase next. (one_way p k j cell is in_k at_k at_j phase next, one_way p j k cell is in_j at_j at_k phase next)
