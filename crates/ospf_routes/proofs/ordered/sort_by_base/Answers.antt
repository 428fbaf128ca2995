use Rattle.std.proofs.Common.{rules}
use Rattle.std.proofs.lemmas.List.Sorted.{IsNonDecreasingBy-from_sort_by_key, IsPermutation-sym, Contains-permutation}
use Rattle.ospf_routes.proofs.ordered.sort_by_base.Goals as goal

pub returns-clause-kept : goal.returns-clause-kept
returns-clause-kept g c s =
    let moved = c.sort_unstable_by_key.ensures.permutation in (
      Contains-permutation _ _ s (IsPermutation-sym _ _ moved),
      Contains-permutation _ _ s moved,
    )

pub returns-clause-sorted : goal.returns-clause-sorted
returns-clause-sorted g c =
    IsNonDecreasingBy-from_sort_by_key (λ x. (g.T.HasPrefix.prefix x).base) _ c.sort_unstable_by_key.ensures.sorted (λ a r q k. search rules)
