-- The order of prefixes as it is derived, and what a list of them has after a sort and the removal of repeats.
use Rattle.std.proofs.Common.{arith}
use Rattle.std.proofs.lemmas.Grind.{common_steps}
use Rattle.std.proofs.Common.{◌≡◌, ◌≢◌, ◌↔◌, Bool, true, ◌&&◌, ◌==◌, List, get_or, Ordering, Contains, AllPairs, IsPermutation, sym, subst}
use Rattle.std.specs.Cmp.{IsTotalOrder, IsEquivalence, and_equiv, on_equiv, on_total, then_total, tied_itself, nat_cmp_total, nat_eq_equiv}
use Rattle.std.specs.Ordering.{nat_cmp, ordering_then, eq_by_cmp}
use Rattle.std.specs.declared.cmp.Ordering.TheVariants.{Less}
use Rattle.std.specs.List.{dedup}
use Rattle.std.specs.List.Sorted.{IsSorted, IsStrictlySortedBy}
use Rattle.std.proofs.lemmas.Bool.{and_parts}
use Rattle.std.proofs.lemmas.List.Sorted.{Contains-permutation, IsPermutation-sym}
use Rattle.std.proofs.lemmas.List.Kept.{Contains-dedup, Contains-from_dedup, IsStrictlySortedBy-dedup}
use Rattle.std.proofs.lemmas.Map.Keys.{Less-from_sorted}
use Rattle.net_addr.specs.Addresses.{Block}

-- the order of prefixes, and their equality, as they are derived
abbrev pub block_cmp : Block → Block → Ordering
block_cmp x y = ordering_then (nat_cmp x.base y.base) (nat_cmp x.len y.len)

abbrev pub block_eq : Block → Block → Bool
block_eq x y = (x.base == y.base) && (x.len == y.len)

pub block_total : IsTotalOrder block_cmp
block_total = then_total (on_total (λ (b : Block). b.base) nat_cmp_total) (on_total (λ (b : Block). b.len) nat_cmp_total)

block_equiv : IsEquivalence block_eq
block_equiv = and_equiv (on_equiv (λ (b : Block). b.base) nat_eq_equiv) (on_equiv (λ (b : Block). b.len) nat_eq_equiv)

pub block_ties : (x y : Block) → block_eq x y ≡ eq_by_cmp block_cmp x y
block_ties x y = grind (arith, common_steps)

pub block_same : (x y : Block) → block_eq x y ≡ true → x ≡ y
block_same x y e = grind (arith, common_steps, and_parts)

-- after a sort repeats stand side by side, so that the order is strict without them
pub sorted_once : (ys zs : List Block) → IsSorted block_cmp ys → zs ≡ dedup block_eq ys → IsStrictlySortedBy block_cmp zs
sorted_once ys zs up is = subst (IsStrictlySortedBy block_cmp) (sym is) (IsStrictlySortedBy-dedup block_total block_ties ys up)

-- and each stands once
pub apart_once : (ys zs : List Block) → IsSorted block_cmp ys → zs ≡ dedup block_eq ys → AllPairs (λ (p q : Block). p ≢ q) zs
apart_once ys zs up is i j d l h e =
    let less = Less-from_sorted block_cmp zs i j d (sorted_once ys zs up is) l h in
    let tied = tied_itself block_total (get_or zs i d) in
    let P : Block → Type 0 = λ z. block_cmp (get_or zs i d) z ≡ Less in
    let itself = subst P (sym e) less in
    cc

-- the same prefixes stand in the list afterwards
pub same_prefixes : (xs ys zs : List Block) (p : Block) → IsPermutation xs ys → zs ≡ dedup block_eq ys → Contains zs p ↔ Contains xs p
same_prefixes xs ys zs p moved is = (
  λ c. Contains-permutation ys xs p (IsPermutation-sym xs ys moved) (Contains-from_dedup block_eq ys p (subst (λ l. Contains l p) is c)),
  λ c. subst (λ l. Contains l p) (sym is) (Contains-dedup block_equiv block_same ys p (Contains-permutation xs ys p moved c)),
)
