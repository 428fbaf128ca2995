-- The lists that are collected have exactly the prefixes that occur, and those that can be targets.
use Rattle.std.proofs.lemmas.Grind.{common_steps}
use Rattle.std.proofs.Common.{◌≡◌, ℕ, zero, suc, ◌<◌, ◌≤◌, ◌⊎◌, ◌↔◌, inr, Bool, true, ◌&&◌, ◌||◌, if◌then◌else◌, List, [], ◌++◌, get_or, map}
use Rattle.std.proofs.Common.{Option, Some, None, IsTrue, IsSome, is_some, Contains, ⊎_elim, arith, sym, ap, subst, ◌∙◌}
use Rattle.std.specs.List.{filter_map}
use Rattle.std.proofs.lemmas.Bool.{cases_lt}
use Rattle.std.proofs.lemmas.List.Elements.{Contains-append_left, Contains-append_right, Contains-append_cases}
use Rattle.std.proofs.lemmas.Option.{get_or_from_slice_get}
use Rattle.net_addr.specs.Addresses.{Block}
use Rattle.net_addr.specs.LongestMatches.{IsBestMatch}
use Rattle.net_addr.proofs.LongestMatchLaws.{IsLongestMatch-same, HasNoMatch-same}
use Rattle.net_model.specs.Configuration.{Configuration}
use Rattle.net_model.specs.DestLists.{subnet_if_up, own_dests, all_dests}
use Rattle.net_model.specs.Network.{Network, Connected}
use Rattle.net_model.specs.declared.area.Range.{Range}
use Rattle.net_model.proofs.Members.{Contains-flat_map, Contains-in_flat_map, Contains-map, Contains-in_map, Contains-filter_map, Contains-in_filter_map}
use Rattle.net_model.proofs.Members.{Contains-none}
use Rattle.route_core.specs.Tables.{table_prefixes}
use Rattle.route_core.specs.declared.entry.Entry.{Entry}
use Rattle.route_core.proofs.TableLaws.{Contains-from_place, place_from_Contains, entry_of_prefix}
use Rattle.igp_theory.specs.Forwarding.{IsOriginated}
use Rattle.igp_theory.specs.Migrations.{Migration, migration}
use Rattle.prefix_atoms.specs.Classes.{SourceEntry, HasRangeOf, Occurs, connected_occurs, range_occurs, old_occurs, new_occurs, HasTarget, Classes, AreClasses}
use Rattle.prefix_atoms.specs.Originated.{originated_subnet, all_originated}
use Rattle.prefix_atoms.specs.steps.Lists.{source_prefixes, GainsPrefixes, AreClassesOf}
use Rattle.prefix_atoms.proofs.Gained.{gains_behind, gains_both}
use Rattle.prefix_atoms.proofs.ClassLaws.{occur_alike, has_target_alike}

-- Interfaces

if_true : {A : Type 0} (b : Bool) (o : Option A) (p : A) → (if b then o else None) ≡ Some p → (b ≡ true) × (o ≡ Some p)
if_true b o p e = grind (arith, common_steps)

if_true_back : {A : Type 0} (b : Bool) (o : Option A) (p : A) → b ≡ true → o ≡ Some p → (if b then o else None) ≡ Some p
if_true_back b o p t e = grind (arith, common_steps)

and_parts : (a b : Bool) → (a && b) ≡ true → (a ≡ true) × (b ≡ true)
and_parts a b e = grind (arith, common_steps)

and_both : (a b : Bool) → a ≡ true → b ≡ true → (a && b) ≡ true
and_both a b s t = grind (arith, common_steps)

some_of_three : (o : Option ℕ) (b c : Bool) → (is_some o || b || c) ≡ true → IsSome o ⊎ IsTrue b ⊎ IsTrue c
some_of_three o b c e = grind (arith, common_steps)

three_of_some : (o : Option ℕ) (b c : Bool) → IsSome o ⊎ IsTrue b ⊎ IsTrue c → (is_some o || b || c) ≡ true
three_of_some o b c h = grind (arith, common_steps)

-- Networks

dest_occurs : (move : Migration) (p : Block) → Contains (all_dests move.net) p → Occurs move p
dest_occurs move p h =
    let one = Contains-flat_map own_dests move.net p h in
    let at = place_from_Contains move.net one.item one.among in
    ⊎_elim
    (λ l.
    let i = Contains-filter_map subnet_if_up one.item.interfaces p l in
    let is = if_true i.item.up i.item.subnet p i.gives in
    connected_occurs at.0 (record {
      interface = i.item;
      up = record { config = one.item; router = at.1; among = i.among; up = is.0 };
      subnet = is.1;
    }))
    (λ r.
    let g = Contains-map (λ (g : Range). g.dest) one.item.ranges p r in
    range_occurs at.0 (record { config = one.item; router = at.1; range = g.item; among = g.among; dest = g.gives }))
    (Contains-append_cases (filter_map subnet_if_up one.item.interfaces) (map (λ (g : Range). g.dest) one.item.ranges) p one.inside)

connected_listed : (net : Network) (u : ℕ) (p : Block) → Connected net u p → Contains (all_dests net) p
connected_listed net u p c =
    Contains-in_flat_map own_dests net c.up.config p (Contains-from_place net u c.up.config c.up.router)
    (Contains-append_left (filter_map subnet_if_up c.up.config.interfaces) (map (λ (g : Range). g.dest) c.up.config.ranges) p
    (Contains-in_filter_map subnet_if_up c.up.config.interfaces c.interface p c.up.among (if_true_back c.interface.up c.interface.subnet p c.up.up c.subnet)))

range_listed : (net : Network) (u : ℕ) (p : Block) → HasRangeOf net u p → Contains (all_dests net) p
range_listed net u p r =
    Contains-in_flat_map own_dests net r.config p (Contains-from_place net u r.config r.router)
    (Contains-append_right (filter_map subnet_if_up r.config.interfaces) (map (λ (g : Range). g.dest) r.config.ranges) p
    (subst (Contains (map (λ (g : Range). g.dest) r.config.ranges)) r.dest (Contains-in_map (λ (g : Range). g.dest) r.config.ranges r.range r.among)))

-- Sources

source_entry : (table : ℕ → List (Block × Entry)) (n : ℕ) (p : Block) → Contains (source_prefixes table n) p → (u : ℕ) × (u < n) × (e : Entry) ×
    Contains (table u) (p, e)
source_entry table zero p h = absurd (Contains-none p h)
source_entry table (suc n) p h = ⊎_elim
    (λ l.
    let before : (u : ℕ) × (u < n) × (e : Entry) × Contains (table u) (p, e) = source_entry table n p l in
    (before.0, omega (arith, before.1), before.2, before.3))
    (λ r. let one = entry_of_prefix (table n) p r in (n, omega arith, one.0, one.1))
    (Contains-append_cases (source_prefixes table n) (table_prefixes (table n)) p h)

source_listed : (table : ℕ → List (Block × Entry)) (n u : ℕ) (p : Block) (e : Entry) → u < n → Contains (table u) (p, e) → Contains (source_prefixes table n) p
source_listed table zero u p e l h = absurd (omega arith)
source_listed table (suc n) u p e l h = ⊎_elim
    (λ (m : u < n). Contains-append_left (source_prefixes table n) (table_prefixes (table n)) p (source_listed table n u p e m h))
    (λ (m : n ≤ u).
    let same : u ≡ n = omega arith in
    Contains-append_right (source_prefixes table n) (table_prefixes (table n)) p
    (Contains-in_map (λ (x : Block × Entry). x.0) (table n) (p, e) (subst (λ (v : ℕ). Contains (table v) (p, e)) same h)))
    (cases_lt u n)

-- the prefixes that are collected are those that occur
pub collected_occur : (net : Network) (o n : ℕ) (old new : ℕ → List (Block × Entry)) (p : Block)
    → Contains ((all_dests net ++ source_prefixes old o) ++ source_prefixes new n) p ↔ Occurs (migration net (SourceEntry o old) (SourceEntry n new)) p
collected_occur net o n old new p = (
  λ h. ⊎_elim
      (λ l. ⊎_elim
      (λ d. dest_occurs (migration net (SourceEntry o old) (SourceEntry n new)) p d)
      (λ s. let e = source_entry old o p s in old_occurs e.0 e.2 (e.1, e.3))
      (Contains-append_cases (all_dests net) (source_prefixes old o) p l))
      (λ r. let e = source_entry new n p r in new_occurs e.0 e.2 (e.1, e.3))
      (Contains-append_cases (all_dests net ++ source_prefixes old o) (source_prefixes new n) p h),
  occurring_listed net o n old new p,
)
  where
    occurring_listed : (net : Network) (o n : ℕ) (old new : ℕ → List (Block × Entry)) (p : Block)
        → Occurs (migration net (SourceEntry o old) (SourceEntry n new)) p → Contains ((all_dests net ++ source_prefixes old o) ++ source_prefixes new n) p
    occurring_listed net o n old new p (connected_occurs u c) =
        Contains-append_left (all_dests net ++ source_prefixes old o) (source_prefixes new n) p (Contains-append_left (all_dests net) (source_prefixes old o) p
        (connected_listed net u p c))
    occurring_listed net o n old new p (range_occurs u r) =
        Contains-append_left (all_dests net ++ source_prefixes old o) (source_prefixes new n) p (Contains-append_left (all_dests net) (source_prefixes old o) p
        (range_listed net u p r))
    occurring_listed net o n old new p (old_occurs u e h) =
        Contains-append_left (all_dests net ++ source_prefixes old o) (source_prefixes new n) p (Contains-append_right (all_dests net) (source_prefixes old o)
        p (source_listed old o u p e h.0 h.1))
    occurring_listed net o n old new p (new_occurs u e h) =
        Contains-append_right (all_dests net ++ source_prefixes old o) (source_prefixes new n) p (source_listed new n u p e h.0 h.1)

-- Targets

-- the list has exactly the prefixes that are originated
pub originated_from_list : (net : Network) (p : Block) → Contains (all_originated net) p → IsOriginated net p
originated_from_list net p h =
    let one = Contains-flat_map (λ (c : Configuration). filter_map originated_subnet c.interfaces) net p h in
    let at = place_from_Contains net one.item one.among in
    let i = Contains-filter_map originated_subnet one.item.interfaces p one.inside in
    let is = if_true (i.item.up && (is_some i.item.area || i.item.level1 || i.item.level2)) i.item.subnet p i.gives in
    let parts = and_parts i.item.up (is_some i.item.area || i.item.level1 || i.item.level2) is.0 in
    record {
      router = at.0;
      interface = i.item;
      up = record { config = one.item; router = at.1; among = i.among; up = parts.0 };
      subnet = is.1;
      runs = some_of_three i.item.area i.item.level1 i.item.level2 parts.1;
    }

pub list_from_originated : (net : Network) (p : Block) → IsOriginated net p → Contains (all_originated net) p
list_from_originated net p o =
    Contains-in_flat_map (λ (c : Configuration). filter_map originated_subnet c.interfaces) net o.up.config p
    (Contains-from_place net o.router o.up.config o.up.router)
    (Contains-in_filter_map originated_subnet o.up.config.interfaces o.interface p o.up.among
    (if_true_back (o.interface.up && (is_some o.interface.area || o.interface.level1 || o.interface.level2)) o.interface.subnet p
    (and_both o.interface.up (is_some o.interface.area || o.interface.level1 || o.interface.level2) o.up.up
    (three_of_some o.interface.area o.interface.level1 o.interface.level2 o.runs)) o.subnet))

-- the longest originated prefix is the target
pub target_from_list : (net : Network) (a : ℕ) (t : Option Block) → IsBestMatch (Contains (all_originated net)) a t → HasTarget net a t
target_from_list net a None h = λ p target.
    HasNoMatch-same (Contains (all_originated net)) (IsOriginated net) a (λ q.
    (originated_from_list net q, list_from_originated net q)) h p target.is_offered target.contains
target_from_list net a (Some p) h = IsLongestMatch-same (Contains (all_originated net)) (IsOriginated net) a p (λ q.
    (originated_from_list net q, list_from_originated net q)) h

-- a list has the prefixes of the network and of both sources: it was made of the network's, gained those of the sources, and left out repeats
pub gathered : (start own first second all net old new : List Block) → start ≡ [] → own ≡ start ++ net → GainsPrefixes own first old
    → GainsPrefixes first second new → ((p : Block) → Contains all p ↔ Contains second p) → (p : Block) → Contains all p ↔ Contains ((net ++ old) ++ new) p
gathered start own first second all net old new none one two three again p =
    let made : GainsPrefixes [] own net = gains_behind [] own net (one ∙ ap (λ (ps : List Block). ps ++ net) none) in
    let gained : GainsPrefixes [] second ((net ++ old) ++ new) =
    gains_both [] first second (net ++ old) new (gains_both [] own first net old made two) three in (
      λ h. ⊎_elim (λ l. absurd (Contains-none p l)) (λ r. r) ((gained p).0 ((again p).0 h)),
      λ h. (again p).1 ((gained p).1 (inr h)),
    )

-- the classes of the prefixes that were collected are those of the network and the tables
pub classes_collected : (net : Network) (o n : ℕ) (old new : ℕ → List (Block × Entry)) (prefixes originated : List Block) (c : Classes)
    → ((p : Block) → Contains prefixes p ↔ Contains ((all_dests net ++ source_prefixes old o) ++ source_prefixes new n) p)
    → originated ≡ all_originated net → AreClassesOf prefixes originated c → AreClasses (migration net (SourceEntry o old) (SourceEntry n new)) c
classes_collected net o n old new prefixes originated c same targets are = record {
  occur = classes_occur net o n old new prefixes c.prefixes same are.prefixes_are;
  classing = are.classing;
  target = λ k a t inside at.
      has_target_alike (occur_alike (migration net (SourceEntry o old) (SourceEntry n new)) c.prefixes (get_or c.samples k 0) a
      (classes_occur net o n old new prefixes c.prefixes same are.prefixes_are) inside.alike) t
      (target_from_list net (get_or c.samples k 0) t
      (subst (λ (ps : List Block). IsBestMatch (Contains ps) (get_or c.samples k 0) t) targets
      (subst (IsBestMatch (Contains originated) (get_or c.samples k 0)) (get_or_from_slice_get c.targets k t None at) (are.targets.each k inside.class))));
}
  where
    classes_occur : (net : Network) (o n : ℕ) (old new : ℕ → List (Block × Entry)) (prefixes mine : List Block)
        → ((p : Block) → Contains prefixes p ↔ Contains ((all_dests net ++ source_prefixes old o) ++ source_prefixes new n) p)
        → mine ≡ prefixes → (p : Block) → Contains mine p ↔ Occurs (migration net (SourceEntry o old) (SourceEntry n new)) p
    classes_occur net o n old new prefixes mine same is p =
        let exact = collected_occur net o n old new p in (
          λ h. exact.0 ((same p).0 (subst (λ (ps : List Block). Contains ps p) is h)),
          λ h. subst (λ (ps : List Block). Contains ps p) (sym is) ((same p).1 (exact.1 h)),
        )
