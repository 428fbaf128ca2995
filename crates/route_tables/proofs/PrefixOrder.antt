-- Prefixes after a sort and the removal of repeats stand in the order of the addresses that they begin with.
use Rattle.std.proofs.Common.{◌≡◌, ℕ, ◌<◌, ◌≤◌, ⊎_elim, List, get_or, Ordering, refl, ap, arith}
use Rattle.std.proofs.lemmas.Cmp.{ranked}
use Rattle.std.proofs.lemmas.Map.Keys.{Less-from_sorted}
use Rattle.std.proofs.Math.Nat.{eq-or-lt_of_le}
use Rattle.std.specs.List.{dedup}
use Rattle.std.specs.List.Sorted.{IsSorted}
use Rattle.std.specs.Ordering.{nat_cmp, ordering_then}
use Rattle.std.specs.declared.cmp.Ordering.TheVariants.{Less, Equal, Greater}
use Rattle.net_addr.specs.Addresses.{Block}
use Rattle.net_addr.proofs.BlockOrder.{block_cmp, block_eq, sorted_once}
use Rattle.route_tables.specs.Prefixes.{BeginInOrder}

below : (x y : Block) → block_cmp x y ≡ Less → x.base ≤ y.base
below x y less = by_base (nat_cmp x.base y.base) refl less
  where
    by_base : (r : Ordering) → r ≡ nat_cmp x.base y.base → ordering_then r (nat_cmp x.len y.len) ≡ Less → x.base ≤ y.base
    by_base Less is e = let lower = ranked x.base y.base Less is in omega (arith, lower)
    by_base Equal is e = let same = ranked x.base y.base Equal is in omega (arith, same)
    by_base Greater is e = absurd cc

pub in_order_once : (ys zs : List Block) → IsSorted block_cmp ys → zs ≡ dedup block_eq ys → BeginInOrder zs
in_order_once ys zs up is i j d order within =
    ⊎_elim
    (λ (at : i ≡ j). let e = ap (λ (k : ℕ). (get_or zs k d).base) at in omega (arith, e))
    (λ (lower : i < j). below (get_or zs i d) (get_or zs j d) (Less-from_sorted block_cmp zs i j d (sorted_once ys zs up is) lower within))
    (eq-or-lt_of_le order)
