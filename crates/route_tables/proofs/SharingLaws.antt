-- Tables in the making: entries that all tables share, and the numbers of those that a table has.
use Rattle.std.proofs.lemmas.Grind.{common_steps}
use Rattle.std.proofs.Common.{◌≡◌, ℕ, ◌+◌, ◌<◌, ◌≤◌, ◌↔◌, ◌⊎◌, List, [], ◌∷◌, ◌++◌, length, Some, None, Option, get_or, take, inl, inr}
use Rattle.std.proofs.Common.{sym, ap, subst, arith, true, false, ltb, length-append}
use Rattle.std.specs.List.{Contains}
use Rattle.std.specs.List.Sorted.{IsNonDecreasingBy, IsPartitionPoint, IsStrictlyIncreasing}
use Rattle.std.proofs.lemmas.Bool.{cases_eq, cases_lt}
use Rattle.std.proofs.lemmas.List.{get_or_append_left, get_or-take, length-take-le, length_push}
use Rattle.std.proofs.lemmas.List.Kept.{AllPairs-from_increasing}
use Rattle.walk_core.specs.Reach.{Reach, listed_hops_of}
use Rattle.route_core.specs.declared.entry.Entry.{Entry}
use Rattle.route_core.specs.declared.entry.Entry.TheVariants.{Via, Discard}
use Rattle.route_tables.specs.Routings.{AreHopsTo}
use Rattle.route_tables.specs.steps.Sharing.{AreHopsToEither, AreNumbers, AreOverOne, HasNumber, IsNumberOf, KeepsMore}
use Rattle.route_tables.specs.declared.pool.Pool.{Pool}
use Rattle.route_tables.specs.declared.sharing.TwoMakers.{TwoMakers}
use Rattle.route_tables.proofs.ListFacts.{each_more}

-- Numbers of entries

-- a number stays that of its entry with more entries
pub number_kept : (wanted : Entry → Type 0) (entries more : List Entry) (number : ℕ) → HasNumber wanted entries number →
    HasNumber wanted (entries ++ more) number
number_kept wanted entries more number has =
    let long = length-append entries more in
    let below : number < length entries = has.below in
    record { below = omega arith; is = subst wanted (sym (get_or_append_left entries more Discard number below)) has.is }

if_any_kept : (wanted : Entry → Type 0) (entries more : List Entry) (number : Option ℕ) → IsNumberOf wanted entries number →
    IsNumberOf wanted (entries ++ more) number
if_any_kept wanted entries more None none = none
if_any_kept wanted entries more (Some number) has = number_kept wanted entries more number has

-- the entry of an alike prefix is one's own
pub number_alike : (one other : Entry → Type 0) (entries : List Entry) (number : Option ℕ) → ((e : Entry) → one e ↔ other e) →
    IsNumberOf one entries number → IsNumberOf other entries number
number_alike one other entries None same none = λ e is. none e ((same e).1 is)
number_alike one other entries (Some number) same has =
    record { below = has.below; is = (same (get_or entries number Discard)).0 has.is }

-- Kind by kind

-- the numbers stay those of the entries with more entries
pub numbers_kept : (wanted : ℕ → Entry → Type 0) (k : ℕ) (entries more : List Entry) (numbers : List (Option ℕ)) → AreNumbers wanted k entries numbers →
    AreNumbers wanted k (entries ++ more) numbers
numbers_kept wanted k entries more numbers are =
    record { count = are.count; each = λ kind below. if_any_kept (wanted kind) entries more (get_or numbers kind None) (are.each kind below) }

-- the number of one more kind, by which there may be more entries
pub numbers_more : (wanted : ℕ → Entry → Type 0) (k : ℕ) (entries more : List Entry) (numbers : List (Option ℕ)) (next : Option ℕ) →
    AreNumbers wanted k entries numbers → IsNumberOf (wanted k) (entries ++ more) next → AreNumbers wanted (k + 1) (entries ++ more) (numbers ++ next ∷ [])
numbers_more wanted k entries more numbers next are here = record {
  count = let long = length_push numbers next in omega (arith, are.count);
  each = each_more (λ (kind : ℕ). IsNumberOf (wanted kind) (entries ++ more)) numbers k next None are.count
      (numbers_kept wanted k entries more numbers are).each here;
}

-- Entries that come

-- the entries over one hop stay so
pub single_kept : (n : ℕ) (old new : Pool) → KeepsMore old new → AreOverOne n old.entries.items → AreOverOne n new.entries.items
single_kept n old new kept are = subst (AreOverOne n) (sym kept.entries)
    (λ hop below. number_kept (λ entry. entry ≡ Via (hop ∷ [])) old.entries.items kept.more hop (are hop below))

-- more and more entries
pub more_kept : (old mid new : Pool) → KeepsMore old mid → KeepsMore mid new → KeepsMore old new
more_kept old mid new first second = grind (arith, common_steps)

-- First hops

-- numbers that increase don't decrease
pub in_order : (hops : List ℕ) → IsStrictlyIncreasing hops → IsNonDecreasingBy (λ (h : ℕ). h) hops
in_order hops up i j d le within = elim (cases_eq i j) [
  | inl same ↦ let here = ap (λ (k : ℕ). get_or hops k d) same in omega (arith, here)
  | inr apart ↦ let less = AllPairs-from_increasing hops up i j d (omega arith) within in omega (arith, less)
]

-- those of the first hops that come before the first one that isn't below n are those below n
pub hops_below : (reach : Reach) (at n k : ℕ) (hops : List ℕ) → hops ≡ listed_hops_of reach at → IsStrictlyIncreasing hops →
    k ≤ length hops → IsPartitionPoint (λ (h : ℕ). ltb h n ≡ true) (λ (h : ℕ). ltb h n ≡ false) hops k →
    AreHopsTo reach at n (take k hops)
hops_below reach at n k hops same up within point = grind (arith, common_steps, cases_lt, get_or-take, length-take-le)

-- the first hops below n towards two vertices, one after another and then in order, are those towards either
pub either_found : (reach : Reach) (makers : TwoMakers) (n : ℕ) (start first both found one other : List ℕ) → start ≡ [] →
    ((h : ℕ) → Contains first h ↔ (Contains start h ⊎ ((h < n) × Contains one h))) →
    ((h : ℕ) → Contains both h ↔ (Contains first h ⊎ ((h < n) × Contains other h))) → IsStrictlyIncreasing found →
    ((h : ℕ) → Contains found h ↔ Contains both h) → one ≡ listed_hops_of reach makers.one → other ≡ listed_hops_of reach makers.other →
    AreHopsToEither reach makers n found
either_found reach makers n start first both found one other empty one_added other_added ascending kept one_is other_is = record {
  ascending = ascending;
  exact = λ h. (
    λ has. elim ((other_added h).0 ((kept h).0 has)) [
      | inl earlier ↦ elim ((one_added h).0 earlier) [
        | inl old ↦ absurd (let none = subst (λ (l : List ℕ). Contains l h) empty old in omega (arith, none.1))
        | inr hop ↦ (hop.0, inl (subst (λ (l : List ℕ). Contains l h) one_is hop.1))
      ]
      | inr hop ↦ (hop.0, inr (subst (λ (l : List ℕ). Contains l h) other_is hop.1))
    ],
    λ to. (kept h).1 (elim to.1 [
      | inl hop ↦ (other_added h).1 (inl ((one_added h).1 (inr (to.0, subst (λ (l : List ℕ). Contains l h) (sym one_is) hop))))
      | inr hop ↦ (other_added h).1 (inr (to.0, subst (λ (l : List ℕ). Contains l h) (sym other_is) hop))
    ]),
  );
}
