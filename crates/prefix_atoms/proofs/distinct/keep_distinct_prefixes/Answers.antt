use Rattle.std.proofs.lemmas.List.Filters.{dedup_is}
use Rattle.net_addr.proofs.BlockOrder.{same_prefixes}
use Rattle.prefix_atoms.proofs.Repeats.{prefixes_ascend}
use Rattle.prefix_atoms.proofs.distinct.keep_distinct_prefixes.Goals as goal

pub returns-clause-same : goal.returns-clause-same
returns-clause-same c = λ p. same_prefixes _ _ _ p c.sort_unstable.ensures.permutation (dedup_is _ _ _ c.dedup.ensures.filtered)

pub returns-clause-ascending : goal.returns-clause-ascending
returns-clause-ascending c = prefixes_ascend _ _ c.sort_unstable.ensures.sorted (dedup_is _ _ _ c.dedup.ensures.filtered)
