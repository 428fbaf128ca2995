use Rattle.std.proofs.Common.{◌≡◌, ◌-◌, List, length, take, drop, leb, ltb, arith, rules, sym, subst}
use Rattle.std.specs.List.Sorted.{IsNonDecreasingBy}
use Rattle.std.proofs.lemmas.List.{take_all, length-drop}
use Rattle.std.proofs.lemmas.List.Sorted.{IsPartitionPoint-from_clause, IsPartitionedBy-leb, IsPartitionedBy-ltb, IsNonDecreasingBy-drop}
use Rattle.isis_routes.specs.declared.homes.Home.{Home}
use Rattle.isis_routes.proofs.HomeFacts.{run_is}
use Rattle.isis_routes.proofs.homes.homes_from.Goals as goal

pub returns : goal.returns
returns c h =
    let homes : List Home = c.args.homes.now in
    let base = c.args.base in
    let start = c.partition_point-start.result in
    let rest : List Home = take (length homes - start) (drop start homes) in
    let same : rest ≡ drop start homes =
    take_all (length homes - start) (drop start homes) (omega (arith, length-drop start homes, c.partition_point-start.ensures.bound)) in
    let count = c.partition_point-count.result in
    let first = IsPartitionPoint-from_clause (λ (x : Home). ltb x.dest.base base) homes start c.partition_point-start.ensures.partitioned
    (IsPartitionedBy-ltb (λ (x : Home). x.dest.base) homes base c.requires) (λ a r q k. search rules) in
    let then = IsPartitionPoint-from_clause (λ (x : Home). leb x.dest.base base) rest count c.partition_point-count.ensures.partitioned
    (IsPartitionedBy-leb (λ (x : Home). x.dest.base) rest base
    (subst (IsNonDecreasingBy (λ (x : Home). x.dest.base)) (sym same) (IsNonDecreasingBy-drop (λ (x : Home). x.dest.base) start homes c.requires)))
    (λ a r q k. search rules) in
    run_is homes rest start count base same first then c.partition_point-start.ensures.bound c.partition_point-count.ensures.bound h
