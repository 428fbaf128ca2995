use Rattle.std.proofs.Common.{ltb, ltb-true, arith, rules}
use Rattle.std.proofs.lemmas.List.Sorted.{IsPartitionPoint-from_clause, IsPartitionedBy-ltb}
use Rattle.ospf_routes.proofs.ordered.count_below.Goals as goal

pub returns-clause-below : goal.returns-clause-below
returns-clause-below g c =
    let parted = IsPartitionedBy-ltb (λ x. (g.T.HasPrefix.prefix x).base) c.args.all.now c.args.base c.requires in
    let point = IsPartitionPoint-from_clause (λ x. ltb (g.T.HasPrefix.prefix x).base c.args.base) _ _ c.partition_point.ensures.partitioned parted
    (λ a r q k. search rules) in
    λ k d low. ltb-true _ _ (point.0 k d (omega arith) low)
