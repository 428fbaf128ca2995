use Rattle.std.proofs.Common.{rules}
use Rattle.std.proofs.lemmas.List.Sorted.{IsNonDecreasingBy-from_sort_by_key, IsPermutation-sym, Contains-permutation}
use Rattle.zone_graph.specs.declared.attachments.Attachment.{Attachment}
use Rattle.zone_graph.proofs.attachments.sort_by_base.Goals as goal

pub returns-clause-kept : goal.returns-clause-kept
returns-clause-kept c a =
    let moved = c.in_ok-sort_by_key.ensures.permutation in (
      Contains-permutation _ _ a (IsPermutation-sym _ _ moved),
      Contains-permutation _ _ a moved,
    )

pub returns-clause-sorted : goal.returns-clause-sorted
returns-clause-sorted c =
    IsNonDecreasingBy-from_sort_by_key (λ (a : Attachment). a.link.subnet.base) _ c.in_ok-sort_by_key.ensures.sorted (λ a r q k. search rules)
