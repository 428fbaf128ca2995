use Rattle.std.proofs.Common.{rules}
use Rattle.std.proofs.lemmas.List.Sorted.{IsNonDecreasingBy-from_sort_by_key, IsPermutation-sym, Contains-permutation}
use Rattle.net_model.specs.declared.claims.Claim.{Claim}
use Rattle.net_model.proofs.claims.sort_by_key.Goals as goal

pub returns-clause-kept : goal.returns-clause-kept
returns-clause-kept c x =
    let moved = c.sort_unstable_by_key.ensures.permutation in
    (Contains-permutation _ _ x (IsPermutation-sym _ _ moved), Contains-permutation _ _ x moved)

pub returns-clause-sorted : goal.returns-clause-sorted
returns-clause-sorted c =
    IsNonDecreasingBy-from_sort_by_key (λ (x : Claim). x.key) _ c.sort_unstable_by_key.ensures.sorted (λ a r q k. search rules)
