use Rattle.std.proofs.Common.{ltb, rules, subst, sym}
use Rattle.std.proofs.lemmas.List.Sorted.{IsPartitionPoint-from_clause, IsPartitionedBy-ltb}
use Rattle.route_tables.specs.Routings.{AreHopsTo}
use Rattle.route_tables.proofs.SharingLaws.{hops_below, in_order}
use Rattle.route_tables.proofs.sharing.hops_towards.Goals as goal

pub returns : goal.returns
returns c =
    let all = c.hops_to-hops in
    let parted = IsPartitionedBy-ltb (λ h. h) all.result.now c.args.count (in_order all.result.now all.ensures.ascending) in
    let point = IsPartitionPoint-from_clause (λ h. ltb h c.args.count) _ _ c.partition_point.ensures.partitioned parted
    (λ a r q k. search rules) in
    subst (AreHopsTo c.args.walks.now c.args.at c.args.count) (sym c.split_at.ensures.front)
    (hops_below c.args.walks.now c.args.at c.args.count c.partition_point.result all.result.now all.ensures.hops
    all.ensures.ascending c.partition_point.ensures.bound point)
