use Rattle.std.proofs.lemmas.List.Filters.{dedup_is}
use Rattle.net_addr.proofs.BlockOrder.{same_prefixes, apart_once}
use Rattle.route_tables.proofs.PrefixOrder.{in_order_once}
use Rattle.route_tables.proofs.distinct.keep_each_prefix_once.Goals as goal

pub returns-clause-same : goal.returns-clause-same
returns-clause-same c = λ p. same_prefixes _ _ _ p c.sort_unstable.ensures.permutation (dedup_is _ _ _ c.dedup.ensures.filtered)

pub returns-clause-apart : goal.returns-clause-apart
returns-clause-apart c = apart_once _ _ c.sort_unstable.ensures.sorted (dedup_is _ _ _ c.dedup.ensures.filtered)

pub returns-clause-ordered : goal.returns-clause-ordered
returns-clause-ordered c = in_order_once _ _ c.sort_unstable.ensures.sorted (dedup_is _ _ _ c.dedup.ensures.filtered)
