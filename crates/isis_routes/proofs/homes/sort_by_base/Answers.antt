use Rattle.std.proofs.Common.{rules}
use Rattle.std.proofs.lemmas.List.Sorted.{IsNonDecreasingBy-from_sort_by_key, IsPermutation-sym, Contains-permutation}
use Rattle.isis_routes.specs.declared.homes.Home.{Home}
use Rattle.isis_routes.proofs.homes.sort_by_base.Goals as goal

pub returns-clause-kept : goal.returns-clause-kept
returns-clause-kept c h =
    let moved = c.sort_unstable_by_key.ensures.permutation in (
      Contains-permutation _ _ h (IsPermutation-sym _ _ moved),
      Contains-permutation _ _ h moved,
    )

pub returns-clause-sorted : goal.returns-clause-sorted
returns-clause-sorted c =
    IsNonDecreasingBy-from_sort_by_key (λ (h : Home). h.dest.base) _ c.sort_unstable_by_key.ensures.sorted (λ a r q k. search rules)
