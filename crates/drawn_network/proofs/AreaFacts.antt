-- The areas of links, sorted and each once.
use Rattle.std.proofs.Common.{◌≡◌, ℕ, List, IsPermutation, nat_cmp, nat_eq, subst, sym}
use Rattle.std.specs.List.{dedup}
use Rattle.std.specs.List.Sorted.{IsSorted}
use Rattle.std.proofs.lemmas.List.Kept.{Contains-dedup_nat, Contains-from_dedup}
use Rattle.std.proofs.lemmas.List.Sorted.{Contains-permutation, IsPermutation-sym}
use Rattle.std.proofs.lemmas.Map.Keys.{IsStrictlyIncreasing-dedup}
use Rattle.drawn_network.specs.LinkEnds.{AreLinkAreas, Link, areas_along}

pub areas_sorted : (links : List Link) (ys zs : List ℕ) → IsPermutation (areas_along links) ys → IsSorted nat_cmp ys →
    zs ≡ dedup nat_eq ys → AreLinkAreas links zs
areas_sorted links ys zs moved up is =
    subst (AreLinkAreas links) (sym is) (record {
      exact = λ n. (
        λ h. Contains-permutation ys _ n (IsPermutation-sym _ ys moved) (Contains-from_dedup nat_eq ys n h),
        λ h. Contains-dedup_nat ys n (Contains-permutation _ ys n moved h),
      );
      ascending = IsStrictlyIncreasing-dedup ys up;
    })
