-- What a router has of each kind, and that the best of all is what it uses.
use Rattle.std.proofs.Common.{◌≡◌, ◌≢◌, ℕ, ◌<◌, ◌≤◌, ◌⊎◌, ⊎_elim, inl, inr, List, length, slice_get, Option, None, Some, IfNone}
use Rattle.std.proofs.Common.{IfSome, Contains, refl, sym, ap, subst, ◌∙◌, arith}
use Rattle.std.proofs.lemmas.Option.{slice_get_within, get_or_from_slice_get}
use Rattle.net_addr.specs.Addresses.{Block, ContainsAddress, default_prefix}
use Rattle.net_addr.specs.LongestMatches.{HasNoMatch, IsLongestMatch, LongestAt}
use Rattle.net_model.specs.Configuration.{Configuration}
use Rattle.net_model.specs.Network.{Connected, HasConfiguration, Network}
use Rattle.net_model.specs.declared.bounds.TheConstants.{ISIS_DISTANCE, MOST_DISTANCE}
use Rattle.route_core.specs.Tables.{IsListed, table_prefixes}
use Rattle.route_core.specs.declared.entry.Entry.{Entry}
use Rattle.route_core.specs.declared.entry.Entry.TheVariants.{Discard}
use Rattle.route_core.proofs.TableLaws.{Contains-from_place, prefix_of_entry}
use Rattle.route_core.proofs.TableLaws as tables
use Rattle.igp_theory.specs.Forwarding.{Counts, NewCounts, OldCounts, Usable, connected_counts, new_counts, old_counts}
use Rattle.igp_theory.specs.Migrations.{listed_migration}
use Rattle.igp_theory.specs.declared.phase.Phase.{Phase}
use Rattle.igp_theory.specs.MiddleLaws.{UsesNone}
use Rattle.used_routes.specs.UsedRoutes.{IsUsedRoute, IsOfTables, entry_at, usable_at}
use Rattle.used_routes.specs.declared.used.Origin.TheVariants as origin
use Rattle.used_routes.specs.declared.used.UsedRoute.{UsedRoute}
use Rattle.used_routes.specs.steps.Found.{HasNone, IsBestUsed, IsFoundUsed, OfConnected, OfNew, OfOld, in_new, in_old, is_connected}
use Rattle.used_routes.proofs.BestRoutes.{Either}

-- ---- the longest entry of a table ----

-- the entry at a place is one of the table, and its prefix the longest that contains the address
record IsLongestAt (table : List (Block × Entry)) (a place : ℕ) (dest : Block) : Type 0 where
  among : IsListed table dest (entry_at table place)
  contains : ContainsAddress dest a
  longest : (q : Block) (e : Entry) → IsListed table q e → ContainsAddress q a → q.len ≤ dest.len

longest_at : (table : List (Block × Entry)) (a place : ℕ) (dest : Block) (entry : Entry) →
    LongestAt (table_prefixes table) a place →
    slice_get table place ≡ Some (dest, entry) → IsLongestAt table a place dest
longest_at table a place dest entry at stands =
    let own = tables.entry_at table place at.prefix at.stands in
    let both : Some (at.prefix, own.0) ≡ Some (dest, entry) = sym own.1 ∙ stands in
    let pairs : (at.prefix, own.0) ≡ (dest, entry) = cc in
    let same : at.prefix ≡ dest = ap (λ (x : Block × Entry). x.0) pairs in
    let read : entry_at table place ≡ entry = ap (λ (x : Block × Entry). x.1) (get_or_from_slice_get table place (dest, entry)
    (default_prefix, Discard) stands) in
    record {
      among = subst (λ (e : Entry). Contains table (dest, e)) (sym read) (Contains-from_place table place (dest, entry) stands);
      contains = subst (λ (p : Block). ContainsAddress p a) same at.match.contains;
      longest = λ q e inside h. subst (λ (p : Block). q.len ≤ p.len) same (at.match.longest q
          (prefix_of_entry table q e inside) h);
    }

no_entry : (table : List (Block × Entry)) (a : ℕ) → HasNoMatch (Contains (table_prefixes table)) a → (q : Block) (e : Entry) →
    IsListed table q e →
    ContainsAddress q a → ⊥
no_entry table a none q e inside h = none q (prefix_of_entry table q e inside) h

-- ---- connected prefixes ----

connected_at : {net : Network} {u : ℕ} {p : Block} {d : ℕ} {x : Usable} → OfConnected net u p d x → Connected net u p
connected_at (is_connected h) = h

pub connected_best : (old new : List (Block × Entry)) (net : Network) (u a : ℕ) (p : Block) →
    IsLongestMatch (Connected net u) a p →
    IsBestUsed (usable_at old new) (OfConnected net u) a (record { prefix = p; distance = 0; origin = origin.Connected })
connected_best old new net u a p best = record {
  counts = is_connected best.is_offered;
  contains = best.contains;
  longest = λ q d x h c. best.longest q (connected_at h) c;
  lowest = λ q d x h c e. omega arith;
}

pub connected_none : (net : Network) (u a : ℕ) → HasNoMatch (Connected net u) a → HasNone (OfConnected net u) a
connected_none net u a none q d x h c = none q (connected_at h) c

-- ---- the old table ----

module _ (net : Network) (table new : List (Block × Entry)) (u : ℕ) (phase : Phase) (a : ℕ) where
  old_among : {p : Block} {d : ℕ} {x : Usable} → OfOld net table u phase p d x → (e : Entry) × IsListed table p e
  old_among (in_old {e = e} _ _ _ _ _ among) = (e, among)

  old_distance : (c : Configuration) → HasConfiguration net u c → {p : Block} {d : ℕ} {x : Usable} →
      OfOld net table u phase p d x →
      c.distances.ospf ≡ d
  old_distance c has (in_old _ other is distance _ _) =
      let same : c ≡ other = cc in
      ap (λ (x : Configuration). x.distances.ospf) same ∙ distance

  pub old_best : (c : Configuration) (place : ℕ) (dest : Block) (entry : Entry) → OldCounts phase → HasConfiguration net u c →
      c.distances.ospf ≢ MOST_DISTANCE → LongestAt (table_prefixes table) a place → slice_get table place ≡ Some (dest, entry) →
      IsBestUsed (usable_at table new) (OfOld net table u phase) a
      (record { prefix = dest; distance = c.distances.ospf; origin = origin.Old place })
  old_best c place dest entry phase_counts has some at stands =
      let best = longest_at table a place dest entry at stands in
      record {
        counts = in_old phase_counts c has refl some best.among;
        contains = best.contains;
        longest = λ q d x h inside. let own = old_among h in best.longest q own.0 own.1 inside;
        lowest = λ q d x h inside e. let same = old_distance c has h in omega (arith, same);
      }

  pub old_none : HasNoMatch (Contains (table_prefixes table)) a → HasNone (OfOld net table u phase) a
  old_none none q d x h inside = let own = old_among h in no_entry table a none q own.0 own.1 inside

  -- in New, and at the greatest distance, it doesn't count
  old_counts_in : {p : Block} {d : ℕ} {x : Usable} → OfOld net table u phase p d x → OldCounts phase
  old_counts_in (in_old when _ _ _ _ _) = when

  pub old_past : (OldCounts phase → ⊥) → HasNone (OfOld net table u phase) a
  old_past past q d x h inside = past (old_counts_in h)

  pub old_installs_none : (c : Configuration) → HasConfiguration net u c → c.distances.ospf ≡ MOST_DISTANCE →
      HasNone (OfOld net table u phase) a
  old_installs_none c has most q d x (in_old _ other is distance some _) inside =
      let same : c ≡ other = cc in
      some (sym distance ∙ ap (λ (y : Configuration). y.distances.ospf) (sym same) ∙ most)

-- ---- the new table ----

module _ (old table : List (Block × Entry)) (phase : Phase) (a : ℕ) where
  new_among : {p : Block} {d : ℕ} {x : Usable} → OfNew table phase p d x → (e : Entry) × IsListed table p e
  new_among (in_new {e = e} _ among) = (e, among)

  new_distance : {p : Block} {d : ℕ} {x : Usable} → OfNew table phase p d x → d ≡ ISIS_DISTANCE
  new_distance (in_new _ _) = refl

  pub new_best : (place : ℕ) (dest : Block) (entry : Entry) → NewCounts phase → LongestAt (table_prefixes table) a place →
      slice_get table place ≡ Some (dest, entry) →
      IsBestUsed (usable_at old table) (OfNew table phase) a
      (record { prefix = dest; distance = ISIS_DISTANCE; origin = origin.New place })
  new_best place dest entry phase_counts at stands =
      let best = longest_at table a place dest entry at stands in
      record {
        counts = in_new phase_counts best.among;
        contains = best.contains;
        longest = λ q d x h inside. let own = new_among h in best.longest q own.0 own.1 inside;
        lowest = λ q d x h inside e. let same = new_distance h in omega (arith, same);
      }

  pub new_none : HasNoMatch (Contains (table_prefixes table)) a → HasNone (OfNew table phase) a
  new_none none q d x h inside = let own = new_among h in no_entry table a none q own.0 own.1 inside

  new_counts_in : {p : Block} {d : ℕ} {x : Usable} → OfNew table phase p d x → NewCounts phase
  new_counts_in (in_new when _) = when

  pub new_not_yet : (NewCounts phase → ⊥) → HasNone (OfNew table phase) a
  new_not_yet past q d x h inside = past (new_counts_in h)

-- ---- all of them ----

module _ (net : Network) (old new : ℕ → List (Block × Entry)) (u : ℕ) (phase : Phase) where
  counts_all : {p : Block} {d : ℕ} {x : Usable} → Counts (listed_migration net old new) u phase p d x →
      Either (OfConnected net u) (Either (OfOld net (old u) u phase) (OfNew (new u) phase)) p d x
  counts_all (connected_counts h) = inl (is_connected h)
  counts_all (old_counts when c has is some among) = inr (inl (in_old when c has is some among))
  counts_all (new_counts when among) = inr (inr (in_new when among))

  of_connected : {p : Block} {d : ℕ} {x : Usable} → OfConnected net u p d x → Counts (listed_migration net old new) u phase p d x
  of_connected (is_connected h) = connected_counts h

  of_old : {p : Block} {d : ℕ} {x : Usable} → OfOld net (old u) u phase p d x →
      Counts (listed_migration net old new) u phase p d x
  of_old (in_old when c has is some among) = old_counts when c has is some among

  of_new : {p : Block} {d : ℕ} {x : Usable} → OfNew (new u) phase p d x → Counts (listed_migration net old new) u phase p d x
  of_new (in_new when among) = new_counts when among

  pub best_is_used : (a : ℕ) (route : UsedRoute) →
      IsBestUsed (usable_at (old u) (new u)) (Either (OfConnected net u) (Either (OfOld net (old u) u phase) (OfNew
      (new u) phase))) a route →
      IsUsedRoute net old new u phase a route
  best_is_used a route best = record {
    uses = record {
      prefix = route.prefix;
      distance = route.distance;
      counts = ⊎_elim of_connected (λ h. ⊎_elim of_old of_new h) best.counts;
      contains = best.contains;
      longest = λ q d x h c. best.longest q d x (counts_all h) c;
      lowest = λ q d x h c e. best.lowest q d x (counts_all h) c e;
    };
    prefix_is = refl;
    distance_is = refl;
  }

  pub none_is_used : (a : ℕ) → HasNone (Either (OfConnected net u) (Either (OfOld net (old u) u phase) (OfNew (new u) phase))) a →
      UsesNone (listed_migration net old new) u phase a
  none_is_used a none used uses = none uses.prefix uses.distance used (counts_all uses.counts) uses.contains

  -- what is found of all of them is what it uses
  pub found_none : (a : ℕ) (found : Option UsedRoute) →
      IsFoundUsed (usable_at (old u) (new u)) (Either (OfConnected net u) (Either (OfOld net (old u) u phase) (OfNew
      (new u) phase))) a found →
      IfNone found (UsesNone (listed_migration net old new) u phase a)
  found_none a None none = none_is_used a none
  found_none a (Some route) best = tt

  pub found_used : (a : ℕ) (found : Option UsedRoute) →
      IsFoundUsed (usable_at (old u) (new u)) (Either (OfConnected net u) (Either (OfOld net (old u) u phase) (OfNew
      (new u) phase))) a found →
      IfSome found (IsUsedRoute net old new u phase a)
  found_used a None none = tt
  found_used a (Some route) best = best_is_used a route best
