-- Prefixes that are sorted, no two of which are the same, ascend.
use Rattle.std.proofs.Common.{◌≡◌, ◌≢◌, ℕ, ◌<◌, false, List, length, get_or, Ordering, IsPermutation, AllPairs, refl, sym, ap}
use Rattle.std.proofs.Common.{◌∙◌, ◌⊎◌, ⊎_elim, inl}
use Rattle.std.proofs.Common.{inr, arith}
use Rattle.std.specs.List.{swap}
use Rattle.std.specs.List.Sorted.{IsSortedByKey}
use Rattle.std.specs.Ordering.{nat_cmp, is_lt, ordering_then}
use Rattle.std.specs.declared.cmp.Ordering.TheVariants.{Less, Equal, Greater}
use Rattle.std.proofs.lemmas.Bool.{cases_eq, cases_lt}
use Rattle.std.proofs.lemmas.Cmp.{ranked}
use Rattle.std.proofs.lemmas.List.Edits.{swapped_from_swap, length-swap}
use Rattle.std.proofs.lemmas.List.Sorted.{ranks_by, sorted_far, IsPermutation-keeps}
use Rattle.net_addr.specs.Addresses.{Block}
use Rattle.net_addr.proofs.BlockOrder.{block_cmp, block_total}
use Rattle.prefix_atoms.specs.Nested.{StandsBefore}
use Rattle.shown_tables.specs.declared.places.Placed.{Placed}

-- ---- no two of the same prefix, in any order ----

-- the prefix at a place
abbrev dest_at : List Placed → ℕ → Placed → Block
dest_at all k d = (get_or all k d).dest

abbrev pub AreApart : List Placed → Type 0
AreApart all = AllPairs (λ (one other : Placed). one.dest ≢ other.dest) all

-- two different places have different prefixes
apart_at : (all : List Placed) → AreApart all → (k m : ℕ) (d : Placed) → k < length all → m < length all → k ≢ m →
    dest_at all k d ≢ dest_at all m d
apart_at all apart k m d below under differ same =
    ⊎_elim
    (λ (l : k < m). apart k m d l under same)
    (λ h. apart m k d (omega arith) below (sym same))
    (cases_lt k m)

-- where the place k was before two places i and j were exchanged
abbrev WasAt : ℕ → ℕ → ℕ → ℕ → Type 0
WasAt i j k m = ((k ≡ i) × (m ≡ j)) ⊎ ((k ≡ j) × (m ≡ i)) ⊎ ((k ≢ i) × (k ≢ j) × (m ≡ k))

record CameFrom (all moved : List Placed) (i j k : ℕ) (d : Placed) : Type 0 where
  from : ℕ
  below : from < length all
  same : dest_at moved k d ≡ dest_at all from d
  was : WasAt i j k from

came : (all : List Placed) (i j k : ℕ) (d : Placed) → i < length all → j < length all → k < length all →
    CameFrom all (swap all i j) i j k d
came all i j k d low high below =
    let s = swapped_from_swap all (swap all i j) i j d low high refl in
    let dest : Placed → Block = λ n. n.dest in
    ⊎_elim
    (λ a. record { from = j; below = high; same = ap (λ n. dest_at (swap all i j) n d) a ∙ ap dest s.0; was = inl (a, refl) })
    (λ a. ⊎_elim
    (λ b. record {
      from = i;
      below = low;
      same = ap (λ n. dest_at (swap all i j) n d) b
          ∙ ap dest s.1;
      was = inr (inl (b, refl));
    })
    (λ b. record { from = k; below = below; same = ap dest (s.2 k a b); was = inr (inr (a, b, refl)) })
    (cases_eq k j))
    (cases_eq k i)

still_apart : (i j k m p q : ℕ) → WasAt i j k p → WasAt i j m q → k ≢ m → p ≢ q
still_apart i j k m p q one other differ same = grind arith

swapped_apart : (all : List Placed) (i j : ℕ) → i < length all → j < length all → AreApart all → AreApart (swap all i j)
swapped_apart all i j low high apart k m d l h same =
    let long = length-swap all i j in
    let one = came all i j k d low high (omega (arith, long)) in
    let other = came all i j m d low high (omega (arith, long)) in
    apart_at all apart one.from other.from d one.below other.below (still_apart i j k m one.from other.from one.was other.was
    (λ e. omega (arith, e)))
    (sym one.same ∙ same ∙ other.same)

pub permuted_apart : (all moved : List Placed) → IsPermutation all moved → AreApart all → AreApart moved
permuted_apart all moved permuted apart =
    IsPermutation-keeps all AreApart apart (λ l i j p q h. swapped_apart l i j p q h) moved permuted

-- ---- sorted ----

-- of two prefixes the second of which isn't less, and isn't the same, the first stands before
before_by : (p q : Block) (by_base by_len : Ordering) → by_base ≡ nat_cmp q.base p.base → by_len ≡ nat_cmp q.len p.len →
    is_lt (ordering_then by_base by_len) ≡ false → p ≢ q → StandsBefore p q
before_by p q Less by_len base len up differ = absurd cc
before_by p q Greater by_len base len up differ = inl (ranked q.base p.base Greater base)
before_by p q Equal Less base len up differ = absurd cc
before_by p q Equal Greater base len up differ = inr (sym (ranked q.base p.base Equal base), ranked q.len p.len Greater len)
before_by p q Equal Equal base len up differ =
    let e = sym (ranked q.base p.base Equal base) in
    let f = sym (ranked q.len p.len Equal len) in
    absurd (differ (λ i. record { base = e i; len = f i }))

pub ascending_from_sorted : (all : List Placed) → IsSortedByKey (λ (one : Placed). one.dest) block_cmp all → AreApart all →
    AllPairs (λ (one other : Placed). StandsBefore one.dest other.dest) all
ascending_from_sorted all up apart i j d l h =
    before_by (dest_at all i d) (dest_at all j d) _ _ refl refl
    (sorted_far (λ (x y : Placed). is_lt (block_cmp x.dest y.dest)) (ranks_by block_total (λ
    (n : Placed). n.dest)) all up i j d (omega arith) h)
    (apart i j d l h)
