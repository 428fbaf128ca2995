-- Classes whose targets are their longest prefixes, and these of one sort, are alike.
use Rattle.std.proofs.Common.{◌≡◌, ℕ, ◌<◌, ◌↔◌, List, [], Option, Some, None, IfSome, Contains, length, map, replicate, get_or}
use Rattle.std.proofs.Common.{slice_get}
use Rattle.std.proofs.Common.{ap, arith, sym, subst, ◌∙◌}
use Rattle.std.proofs.Math.ListN.{get_or-map}
use Rattle.std.proofs.lemmas.List.{get_or-replicate, length-replicate}
use Rattle.std.proofs.lemmas.Option.{get_or_from_slice_get, none-some, slice_get_within}
use Rattle.net_addr.specs.Addresses.{Block}
use Rattle.net_model.specs.Network.{Network, Connected}
use Rattle.igp_theory.specs.Forwarding.{IsTarget}
use Rattle.igp_theory.specs.Migrations.{listed_migration}
use Rattle.route_core.specs.declared.entry.Entry.{Entry}
use Rattle.prefix_atoms.specs.Classes.{Classes}
use Rattle.prefix_atoms.proofs.Pushed.{at_place}
use Rattle.rib_mix.specs.Answers.{IsAlikeAt}
use Rattle.rib_mix.specs.Cells.{IsCell, cell_at}
use Rattle.rib_mix.specs.Rows.{AreEarlierClasses, IsForwarding, MixedParts}
use Rattle.rib_mix.specs.steps.Earlier.{AreEarlier, AreFirstClasses, IsEarlierPlain, IsPlain}
use Rattle.rib_mix.specs.steps.Homes.{AreNetHomes}
use Rattle.rib_mix.specs.steps.Likeness.{AreLike, AreLikeAt, PlacedPrefixes}
use Rattle.rib_mix.specs.steps.Sorts.{AreSorts, sort_at}
use Rattle.rib_mix.specs.declared.both_tables.BothTables.{BothTables}
use Rattle.rib_mix.specs.declared.sorts.Sorts.{Sorts}
use Rattle.rib_mix.proofs.ClassUses.{alike_cells, sample}
use Rattle.rib_mix.proofs.MixedLaws.{place_of, some_home}
use Rattle.rib_mix.proofs.SortLaws.{sorts_along}

-- no class stands first before the first one
pub no_firsts : (classes : Classes) (of_places : List ℕ) (n : ℕ) (firsts : List (Option ℕ)) → firsts ≡ replicate n None
    → AreFirstClasses classes of_places 0 firsts
no_firsts classes of_places n firsts are = record {
  below = λ sort k at. absurd (none sort k at);
  plain = λ sort k at. absurd (none sort k at);
}
  where
    none : (sort k : ℕ) → slice_get firsts sort ≡ Some (Some k) → ⊥
    none sort k at =
        let long : length firsts ≡ n = ap length are ∙ length-replicate n None in
        let within : sort < n = omega (arith, slice_get_within firsts sort (Some k) at, long) in
        none-some k (sym (get_or-replicate n sort None None within) ∙ ap (λ (fs : List (Option ℕ)). get_or fs sort None) (sym are)
        ∙ get_or_from_slice_get firsts sort (Some k) None at)

-- the first class of a sort is an earlier one for a class of the sort
pub earlier_of : (classes : Classes) (of_places : List ℕ) (k sort : ℕ) (firsts : List (Option ℕ)) (o : Option ℕ)
    → slice_get firsts sort ≡ Some o
    → IsPlain classes of_places sort k → AreFirstClasses classes of_places k firsts
    → IfSome o (IsEarlierPlain classes of_places k)
earlier_of classes of_places k sort firsts None at plain are = tt
earlier_of classes of_places k sort firsts (Some other) at plain are =
    record { before = are.below sort other at; sort = sort; is = plain; other_is = are.plain sort other at }

-- a prefix is connected where the first one of its sort is
sort_homes : (net : Network) (prefixes : List Block) (all : PlacedPrefixes) (both : BothTables) (parents : List (Option ℕ))
    (sorts : Sorts) (place sort u : ℕ) (p q : Block) → AreNetHomes net prefixes all.homes
    → AreSorts (AreLikeAt all both) parents (length parents) sorts → slice_get prefixes place ≡ Some p
    → slice_get sorts.of_places.items place ≡ Some sort → slice_get prefixes (get_or sorts.firsts.items sort 0) ≡ Some q
    → Connected net u p ↔ Connected net u q
sort_homes net prefixes all both parents sorts place sort u p q homes are at_p of_sort at_q =
    let first : ℕ = get_or sorts.firsts.items sort 0 in
    let is_sort : get_or sorts.of_places.items place 0 ≡ sort =
    get_or_from_slice_get sorts.of_places.items place sort 0 of_sort in
    let within : place < length parents = omega (arith, slice_get_within sorts.of_places.items place sort of_sort, are.count) in
    let like : AreLikeAt all both place first =
    subst (λ (s : ℕ). AreLikeAt all both place (get_or sorts.firsts.items s 0)) is_sort (are.each place within).like_first in
    let one = homes.each place u p at_p in
    let other = homes.each first u q at_q in (
      λ connected. other.0 (subst (λ (h : List ℕ). Contains h u) like.homes (one.1 connected)),
      λ connected. one.0 (subst (λ (h : List ℕ). Contains h u) (sym like.homes) (other.1 connected)),
    )

-- what is made of the sorts of a network's prefixes
pub record IsSorted (old new : ℕ → List (Block × Entry)) (kept : MixedParts) (all : PlacedPrefixes) (sorts : Sorts) : Type 0 where
  pub forwarding : IsForwarding old new kept
  pub sorts_are : kept.sorts ≡ map (sort_at sorts.of_places.items) kept.classes.tops
  pub homes : AreNetHomes kept.ground.net kept.classes.prefixes all.homes
  pub like : AreSorts (AreLike all kept.ground.tables) kept.classes.parents (length kept.classes.parents) sorts

-- the target of a plain class is its longest prefix
plain_target : (old new : ℕ → List (Block × Entry)) (kept : MixedParts) (of_places : List ℕ) (sort k : ℕ)
    → IsForwarding old new kept
    → (plain : IsPlain kept.classes of_places sort k) → (k < length kept.classes.samples)
    × IsTarget kept.ground.net (get_or kept.classes.samples k 0) plain.prefix
plain_target old new kept of_places sort k is plain =
    let within : k < length kept.classes.samples =
    omega (arith, slice_get_within kept.classes.targets k (Some plain.prefix) plain.target, is.classes_are.classing.targets) in (
      within,
      is.classes_are.target k (get_or kept.classes.samples k 0) (Some plain.prefix) (record {
        class = within;
        address = is.classes_are.classing.samples.addresses k 0 within;
        alike = λ p member. (λ h. h, λ h. h);
      }) plain.target,
    )

-- the sort of a plain class is kept
plain_sort : (old new : ℕ → List (Block × Entry)) (kept : MixedParts) (all : PlacedPrefixes) (sorts : Sorts) (sort k : ℕ)
    → IsSorted old new kept all sorts
    → IsPlain kept.classes sorts.of_places.items sort k → get_or kept.sorts k None ≡ Some sort
plain_sort old new kept all sorts sort k is plain =
    ap (λ (ss : List (Option ℕ)). get_or ss k None) is.sorts_are
    ∙ get_or-map (sort_at sorts.of_places.items) kept.classes.tops k None
    ∙ ap (sort_at sorts.of_places.items) (get_or_from_slice_get kept.classes.tops k (Some plain.place) None plain.top)
    ∙ ap Some (get_or_from_slice_get sorts.of_places.items plain.place sort 0 plain.sort_is)

-- plain classes of one sort have their targets connected at the same routers
plain_homes : (old new : ℕ → List (Block × Entry)) (kept : MixedParts) (all : PlacedPrefixes) (sorts : Sorts) (sort k j u : ℕ)
    → IsSorted old new kept all sorts → (one : IsPlain kept.classes sorts.of_places.items sort k)
    → (other : IsPlain kept.classes sorts.of_places.items sort j) → Connected kept.ground.net u one.prefix
    → Connected kept.ground.net u other.prefix
plain_homes old new kept all sorts sort k j u is one other connected =
    let router : u < length kept.ground.net = slice_get_within kept.ground.net u connected.up.config connected.up.router in
    let both = at_place kept.ground.tables u (omega (arith, router, is.forwarding.tables_are.count)) in
    let is_sort : get_or sorts.of_places.items one.place 0 ≡ sort =
    get_or_from_slice_get sorts.of_places.items one.place sort 0 one.sort_is in
    let in_place : one.place < length sorts.of_places.items = slice_get_within sorts.of_places.items one.place sort one.sort_is in
    let within : sort < length sorts.firsts.items =
    subst (λ (s : ℕ). s < length sorts.firsts.items) is_sort (is.like.sorting.within one.place in_place) in
    let first : get_or sorts.firsts.items sort 0 < length kept.classes.prefixes =
    subst (λ (n : ℕ). get_or sorts.firsts.items sort 0 < n) is.forwarding.classes_are.classing.nested.count
    (is.like.sorting.firsts sort within) in
    let q = at_place kept.classes.prefixes (get_or sorts.firsts.items sort 0) first in
    let like = sorts_along (AreLike all kept.ground.tables) (AreLikeAt all both.0) kept.classes.parents
    (length kept.classes.parents) sorts (λ i j likes. likes u both.0 both.1) is.like in
    let up = sort_homes kept.ground.net kept.classes.prefixes all both.0 kept.classes.parents sorts one.place sort u one.prefix q.0
    is.homes like one.stands one.sort_is q.1 in
    let down = sort_homes kept.ground.net kept.classes.prefixes all both.0 kept.classes.parents sorts other.place sort u
    other.prefix q.0 is.homes like other.stands other.sort_is q.1 in
    down.1 (up.0 connected)

-- a router treats plain classes of one sort alike
plain_alike : (old new : ℕ → List (Block × Entry)) (kept : MixedParts) (all : PlacedPrefixes) (sorts : Sorts) (sort k j u : ℕ)
    → IsSorted old new kept all sorts → IsPlain kept.classes sorts.of_places.items sort k
    → IsPlain kept.classes sorts.of_places.items sort j
    → u < length kept.ground.net → IsAlikeAt (listed_migration kept.ground.net old new) kept.classes u k j
plain_alike old new kept all sorts sort k j u is one other router =
    let home = some_home old new kept u is.forwarding router in
    let in_k = (plain_target old new kept sorts.of_places.items sort k is.forwarding one).0 in
    let in_j = (plain_target old new kept sorts.of_places.items sort j is.forwarding other).0 in
    let same : get_or kept.sorts j None ≡ get_or kept.sorts k None =
    plain_sort old new kept all sorts sort j is other ∙ sym (plain_sort old new kept all sorts sort k is one) in
    alike_cells (place_of old new kept u home.0) k j (cell_at (get_or kept.rows u [])
    (get_or kept.sorts k None)) home.1.place in_k in_j
    (home.1.cells_are k in_k)
    (subst (λ (o : Option ℕ). IsCell (sample (place_of old new kept u home.0) j) (cell_at (get_or kept.rows u []) o)) same
    (home.1.cells_are j in_j))

-- so the earlier classes that are kept are alike
pub earlier_alike : (old new : ℕ → List (Block × Entry)) (kept : MixedParts) (all : PlacedPrefixes) (sorts : Sorts)
    → IsSorted old new kept all sorts
    → AreEarlier kept.classes sorts.of_places.items kept.earlier
    → AreEarlierClasses (listed_migration kept.ground.net old new) kept.classes kept.earlier
earlier_alike old new kept all sorts is earlier = record {
  count = earlier.count;
  before = λ k other at. (earlier.each k other at).before;
  alike = λ k other at.
      let e = earlier.each k other at in
      record {
        one = e.other_is.prefix;
        another = e.is.prefix;
        one_is = (plain_target old new kept sorts.of_places.items e.sort other is.forwarding e.other_is).1;
        other_is = (plain_target old new kept sorts.of_places.items e.sort k is.forwarding e.is).1;
        homes = λ u. (
          plain_homes old new kept all sorts e.sort other k u is e.other_is e.is,
          plain_homes old new kept all sorts e.sort k other u is e.is e.other_is,
        );
        each = λ u. plain_alike old new kept all sorts e.sort other k u is e.other_is e.is;
      };
}
