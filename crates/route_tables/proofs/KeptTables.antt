-- Tables that keep the numbers of a router's entries, kind by kind, are the router's.
use Rattle.std.proofs.lemmas.Grind.{common_steps}
use Rattle.std.proofs.Common.{◌≡◌, ℕ, zero, suc, ◌+◌, ◌<◌, inl, inr, List, [], ◌∷◌, ◌++◌, length, map, Option, Some, None, get_or, refl, sym, ap, subst}
use Rattle.std.proofs.Common.{◌∙◌, arith}
use Rattle.std.specs.List.{All, Contains}
use Rattle.std.proofs.lemmas.Bool.{cases_lt}
use Rattle.std.proofs.lemmas.List.{get_or_default, get_or_past, length-map, length_push}
use Rattle.std.proofs.lemmas.Option.{none-some}
use Rattle.net_addr.specs.Addresses.{Block, default_prefix}
use Rattle.walk_core.specs.declared.segment.Port.{Port}
use Rattle.route_core.specs.Rows.{IsTable, KeptTable, Row, kept_number, listed, listed_row, rows_in}
use Rattle.route_core.specs.Tables.{AreLinkedHops}
use Rattle.route_core.specs.declared.entry.Entry.{Entry}
use Rattle.route_core.specs.declared.entry.Entry.TheVariants.{Discard, Via}
use Rattle.route_core.proofs.RowLaws.{row_is, row_is_there, table_rows}
use Rattle.route_tables.specs.Entries.{IsLawful, AreJoined, AreJoinedBy}
use Rattle.route_tables.specs.steps.Entries.{AreSameEntries, IsTableOf, AreTablesBelow}
use Rattle.route_tables.specs.Prefixes.{AreDistinctPrefixes, prefix_at}
use Rattle.route_tables.specs.Protocols.{AreAlikeInLane, ProtocolRoutes}
use Rattle.route_tables.specs.Tables.{AreLawful, AreRoutes, AreSourceTables, prefixes_of_first}
use Rattle.route_tables.specs.declared.table.RouterNumbers.{RouterNumbers}
use Rattle.route_tables.specs.steps.Kinds.{AreKinds, first_prefix_of}
use Rattle.route_tables.specs.steps.Sharing.{AreRouterNumbers, AreRouterNumbersBelow, HasNumber, IsNumberOf, kept_with}
use Rattle.route_tables.proofs.ListFacts.{contains_map, each_more, map_source}
use Rattle.route_tables.proofs.SharingLaws.{number_alike, numbers_kept}

-- What a table keeps

-- a table has this entry for the prefix at a place
record IsKept (kept : KeptTable) (p : Block) (e : Entry) : Type 0 where
  pub place : ℕ
  pub number : ℕ
  pub within : place < length kept.prefixes
  pub has : kept_number kept place ≡ Some number
  pub stands : listed_row kept.prefixes kept.entries (record { place = place; number = number }) ≡ (p, e)

kept_of_listed : (kept : KeptTable) (p : Block) (e : Entry) → Contains (listed kept) (p, e) → IsKept kept p e
kept_of_listed kept p e has =
    let from = map_source (listed_row kept.prefixes kept.entries) (rows_in kept) (record { place = 0; number = 0 }) (p, e) has in
    let row = row_is kept (length kept.prefixes) from.0 from.1 in
    record { place = from.0.place; number = from.0.number; within = row.below; has = row.number; stands = from.2 }

listed_of_kept : (kept : KeptTable) (p : Block) (e : Entry) → IsKept kept p e → Contains (listed kept) (p, e)
listed_of_kept kept p e is =
    let row : Row = record { place = is.place; number = is.number } in
    let stands = listed_row kept.prefixes kept.entries in
    subst (Contains (listed kept)) is.stands
    (contains_map stands (rows_in kept) row (row_is_there kept is.place is.number (length kept.prefixes) is.has is.within))

-- The table of a router's numbers

-- kinds in a lane are kinds for each of its routers
pub kinds_for : (routes : ProtocolRoutes) (lane : ℕ) (dests : List Block) (k : ℕ) (kinds firsts : List ℕ) (u : ℕ) → routes.in_lane lane u →
    AreKinds (AreAlikeInLane routes lane) dests k kinds firsts → AreKinds (AreSameEntries (routes.entry u)) dests k kinds firsts
kinds_for routes lane dests k kinds firsts u is are = grind (arith, common_steps)

-- the number of each prefix is that of its entry
number_of_place : (entry : Block → Entry → Type 0) (dests : List Block) (entries : List Entry) (own : RouterNumbers) (place : ℕ) →
    AreRouterNumbers entry dests entries own → place < length dests →
    IsNumberOf (entry (prefix_at dests place)) entries (kept_number (kept_with dests entries own) place)
number_of_place entry dests entries own place are within =
    let kind : ℕ = get_or own.kinds.value.items place 0 in
    number_alike (entry (first_prefix_of dests are.firsts kind)) (entry (prefix_at dests place)) entries (get_or own.numbers.items kind None)
    (are.kinds.alike_first place within) (are.numbers.each kind (are.kinds.below place 0 (omega (arith, are.kinds.count))))

-- some number is that of an entry
some_number : (wanted : Entry → Type 0) (entries : List Entry) (o : Option ℕ) (number : ℕ) → o ≡ Some number → IsNumberOf wanted entries o →
    HasNumber wanted entries number
some_number wanted entries o number is has = subst (IsNumberOf wanted entries) is has

-- the numbers are those of a table
is_table : (entry : Block → Entry → Type 0) (dests : List Block) (entries : List Entry) (own : RouterNumbers) → AreDistinctPrefixes dests →
    AreRouterNumbers entry dests entries own → IsTable (kept_with dests entries own)
is_table entry dests entries own apart are = record {
  distinct = apart;
  kinds = are.kinds.count;
  kinds_below = λ place d within. let below = are.kinds.below place d within in omega (arith, are.numbers.count);
  numbers_below = λ kind number is. elim (cases_lt kind (length own.numbers.items)) [
    | inl within ↦
        (some_number (entry (first_prefix_of dests are.firsts kind)) entries (get_or own.numbers.items kind None) number is
        (are.numbers.each kind (omega (arith, are.numbers.count)))).below
    | inr past ↦ absurd (none-some number (sym (get_or_past own.numbers.items kind None past) ∙ is))
  ];
}

-- a prefix that has an entry has its number
kept_at : (entry : Block → Entry → Type 0) (dests : List Block) (entries : List Entry) (own : RouterNumbers) (place : ℕ) (e : Entry) (o : Option ℕ) →
    ((p : Block) (one other : Entry) → entry p one → entry p other → one ≡ other) → place < length dests → entry (prefix_at dests place) e →
    kept_number (kept_with dests entries own) place ≡ o → IsNumberOf (entry (prefix_at dests place)) entries o →
    IsKept (kept_with dests entries own) (prefix_at dests place) e
kept_at entry dests entries own place e None single within is at none = absurd (none e is)
kept_at entry dests entries own place e (Some number) single within is at has = record {
  place = place;
  number = number;
  within = within;
  has = at;
  stands = ap (λ (f : Entry). (prefix_at dests place, f)) (single (prefix_at dests place) (get_or entries number Discard) e has.is is);
}

-- and it is the table of the router's entries
is_table_of : (entry : Block → Entry → Type 0) (dests : List Block) (entries : List Entry) (own : RouterNumbers) →
    ((p : Block) (one other : Entry) → entry p one → entry p other → one ≡ other) → AreDistinctPrefixes dests →
    ((p : Block) (e : Entry) → entry p e → Contains dests p) → AreRouterNumbers entry dests entries own →
    IsTableOf entry (listed (kept_with dests entries own))
is_table_of entry dests entries own single apart every are =
    let kept : KeptTable = kept_with dests entries own in record {
      distinct = (table_rows kept (is_table entry dests entries own apart are)).distinct;
      exact = λ p e. (
        λ has.
            let is = kept_of_listed kept p e has in
            let number = some_number (entry (prefix_at dests is.place)) entries (kept_number kept is.place) is.number is.has
            (number_of_place entry dests entries own is.place are is.within) in
            subst (λ (x : Block × Entry). entry x.0 x.1) is.stands number.is,
        λ is.
            let at = every p e is in
            let same : prefix_at dests at.0 ≡ p = get_or_default dests at.0 default_prefix p at.1 ∙ at.2 in
            subst (λ (q : Block). Contains (listed kept) (q, e)) same
            (listed_of_kept kept (prefix_at dests at.0) e
            (kept_at entry dests entries own at.0 e (kept_number kept at.0) single at.1 (subst (λ (q : Block). entry q e) (sym same) is) refl
            (number_of_place entry dests entries own at.0 are at.1))),
      );
    }

-- Router by router

-- with the entries of one more router the numbers are those of the same entries, and so are its own
pub numbers_below_more : (entry : ℕ → Block → Entry → Type 0) (n : ℕ) (dests : List Block) (entries more : List Entry) (all : List RouterNumbers)
    (next : RouterNumbers) → AreRouterNumbersBelow entry n dests entries all → AreRouterNumbers (entry n) dests (entries ++ more) next →
    AreRouterNumbersBelow entry (n + 1) dests (entries ++ more) (all ++ next ∷ [])
numbers_below_more entry n dests entries more all next are is = record {
  count = let long = length_push all next in omega (arith, are.count);
  each = λ u own. each_more (λ (v : ℕ). AreRouterNumbers (entry v) dests (entries ++ more)) all n next own are.count
      (λ v below. kept v (get_or all v own) (are.each v own below)) is u;
}
  where
    kept : (u : ℕ) (own : RouterNumbers) → AreRouterNumbers (entry u) dests entries own → AreRouterNumbers (entry u) dests (entries ++ more) own
    kept u own numbered = record {
      firsts = numbered.firsts;
      kinds = numbered.kinds;
      numbers = numbers_kept (λ (kind : ℕ). entry u (first_prefix_of dests numbered.firsts kind)) (length numbered.firsts) entries more own.numbers.items
          numbered.numbers;
    }

-- what holds of what a function makes of the element at a place
made_at : {X Y : Type 0} (f : X → Y) (P : Y → Type 0) (xs : List X) (u : ℕ) (d : Y) → u < length xs → ((x : X) → P (f (get_or xs u x))) →
    P (get_or (map f xs) u d)
made_at f P [] u d within holds = absurd (omega arith)
made_at f P (x ∷ xs) zero d within holds = holds x
made_at f P (x ∷ xs) (suc u) d within holds = made_at f P xs u d (omega arith) holds

-- the tables that keep the numbers of all routers are theirs
pub are_tables : (routers : ℕ) (entry : ℕ → Block → Entry → Type 0) (dests : List Block) (entries : List Entry) (all : List RouterNumbers) →
    ((u : ℕ) (p : Block) (one other : Entry) → entry u p one → entry u p other → one ≡ other) → AreDistinctPrefixes dests →
    ((u : ℕ) (p : Block) (e : Entry) → u < routers → entry u p e → Contains dests p) → AreRouterNumbersBelow entry routers dests entries all →
    AreTablesBelow entry routers (map listed (map (kept_with dests entries) all))
are_tables routers entry dests entries all single apart every are =
    let kept = kept_with dests entries in
    let long = length-map all kept in record {
      count = length-map (map kept all) listed ∙ long ∙ are.count;
      each = λ u below.
          made_at listed (IsTableOf (entry u)) (map kept all) u [] (omega (arith, are.count))
          (λ other. made_at kept (λ (k : KeptTable). IsTableOf (entry u) (listed k)) all u other (omega (arith, are.count))
          (λ own. is_table_of (entry u) dests entries (get_or all u own) (single u) apart (λ p e is. every u p e below is) (are.each u own below)));
    }

pub all_are_tables : (n : ℕ) (entry : ℕ → Block → Entry → Type 0) (dests : List Block) (entries : List Entry) (all : List RouterNumbers) →
    AreDistinctPrefixes dests → AreRouterNumbersBelow entry n dests entries all → All (λ (own : RouterNumbers). IsTable (kept_with dests entries own)) all
all_are_tables n entry dests entries all apart are = λ k d within.
    is_table (entry k) dests entries (get_or all k d) apart (are.each k d (omega (arith, are.count)))

-- The source of tables

-- what a protocol gives the routers is what every source of tables promises
are_lawful : (routers : ℕ) (entry : ℕ → Block → Entry → Type 0) (neighbor : ℕ → ℕ → Type 0) (prefixes : List Block)
    (tables : List (List (Block × Entry))) (segments : List (List Port)) → IsLawful routers entry neighbor → AreTablesBelow entry routers tables →
    AreJoinedBy neighbor segments → AreLawful (record { prefixes = prefixes; tables = tables; segments = segments })
are_lawful routers entry neighbor prefixes tables segments lawful are joined = record {
  few = let few = lawful.few in omega (arith, are.count);
  tables = record {
    distinct = λ u below. (are.each u (omega (arith, are.count))).distinct;
    hops = λ u p hops below has.
        let within : u < routers = omega (arith, are.count) in
        let given : AreLinkedHops routers (neighbor u) hops = lawful.hops u p hops (((are.each u within).exact p (Via hops)).0 has) in
        subst (λ (n : ℕ). AreLinkedHops n (AreJoined segments u) hops) (sym are.count)
        (record {
          some = given.some;
          ascending = given.ascending;
          below = given.below;
          linked = λ k d inside. (joined u (get_or hops k d)).1 (given.linked k d inside);
        });
  };
}

-- tables that keep these prefixes keep those of the first one
shared_prefixes : (dests : List Block) (tables : List KeptTable) → All (λ (kept : KeptTable). kept.prefixes ≡ dests) tables →
    All (λ (kept : KeptTable). kept.prefixes ≡ prefixes_of_first tables) tables
shared_prefixes dests [] are = λ k d below. absurd (omega arith)
shared_prefixes dests (first ∷ tables) are =
    subst (λ (ps : List Block). All (λ (kept : KeptTable). kept.prefixes ≡ ps) (first ∷ tables)) (sym (are 0 first (omega arith))) are

pub are_source_tables : (routers : ℕ) (entry : ℕ → Block → Entry → Type 0) (neighbor : ℕ → ℕ → Type 0) (dests : List Block) (tables : List KeptTable)
    (segments : List (List Port)) → IsLawful routers entry neighbor → AreTablesBelow entry routers (map listed tables) →
    All (λ (kept : KeptTable). kept.prefixes ≡ dests) tables → AreJoinedBy neighbor segments → AreSourceTables tables segments
are_source_tables routers entry neighbor dests tables segments lawful are shared joined = record {
  lawful = are_lawful routers entry neighbor (prefixes_of_first tables) (map listed tables) segments lawful are joined;
  prefixes = shared_prefixes dests tables shared;
}

-- and they are those of the protocol
pub are_routes : (routers : ℕ) (entry : ℕ → Block → Entry → Type 0) (neighbor : ℕ → ℕ → Type 0) (prefixes : List Block)
    (tables : List (List (Block × Entry))) (segments : List (List Port)) → AreTablesBelow entry routers tables → AreJoinedBy neighbor segments →
    AreRoutes routers entry neighbor (record { prefixes = prefixes; tables = tables; segments = segments })
are_routes routers entry neighbor prefixes tables segments are joined = record {
  routers = are.count;
  entries = λ u p e within. (are.each u within).exact p e;
  linked = joined;
}
