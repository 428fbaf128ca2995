use Rattle.std.proofs.Common.{rules}
use Rattle.std.proofs.lemmas.Fn.{always_returns_same}
use Rattle.shown_tables.specs.declared.places.Placed.{Placed}
use Rattle.shown_tables.proofs.Sorting.{ascending_from_sorted, permuted_apart}
use Rattle.shown_tables.proofs.places.sort_by_prefix.Goals as goal

pub returns-clause-ascending : goal.returns-clause-ascending
returns-clause-ascending c =
    ascending_from_sorted _ (c.sort_unstable_by_key.ensures.sorted (λ (one : Placed). one.dest) (always_returns_same _ _ _
    (λ a r f' k. search rules)))
    (permuted_apart _ _ c.sort_unstable_by_key.ensures.permutation c.requires)
