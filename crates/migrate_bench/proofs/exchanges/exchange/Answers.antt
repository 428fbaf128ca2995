use Rattle.std.proofs.Common.{◌∙◌}
use Rattle.std.proofs.lemmas.List.Sorted.{Contains-permutation, IsPermutation-sym}
use Rattle.migrate_bench.proofs.exchanges.exchange.Goals as goal

pub returns : goal.returns
returns c = record {
  each = c.swap.ensures.len ∙ c.requires.ranking.each;
  whole = λ w r below among.
      Contains-permutation _ _ w c.swap.ensures.permutation
      (c.requires.ranking.whole w r below (Contains-permutation _ _ r (IsPermutation-sym _ _ c.swap.ensures.permutation) among));
}
