-- The comparison answers by the byte order of names, which is an order.
use Rattle.std.proofs.Common.{rules, ap}
use Rattle.std.specs.Ordering.{is_lt, nat_cmp}
use Rattle.std.specs.Cmp.Lexicographic.{slice_cmp, nat_list_cmp_total}
use Rattle.std.proofs.lemmas.List.Sorted.{ranks_by, answers_always}
use Rattle.net_model.specs.Configuration.{Configuration}
use Rattle.net_model.proofs.naming.sort_by_name.Goals as goal

pub returns-clause-sorted : goal.returns-clause-sorted
returns-clause-sorted c =
    c.sort_unstable_by.ensures.sorted
    (λ (x y : Configuration). is_lt (slice_cmp nat_cmp x.name y.name))
    (ranks_by nat_list_cmp_total (λ (x : Configuration). x.name))
    (answers_always _ _ _ (λ f a r f' k. ap is_lt (search rules)))
