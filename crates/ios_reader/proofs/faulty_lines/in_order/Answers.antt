use Rattle.std.proofs.Common.{rules}
use Rattle.std.proofs.lemmas.List.Sorted.{IsNonDecreasingBy-from_sort_by}
use Rattle.ios_reader.specs.steps.ToldFaults.{order_of}
use Rattle.ios_reader.proofs.faulty_lines.in_order.Goals as goal

pub returns-clause-sorted : goal.returns-clause-sorted
returns-clause-sorted c = IsNonDecreasingBy-from_sort_by order_of _ c.sort_unstable_by.ensures.sorted (λ a r q k. search rules)
