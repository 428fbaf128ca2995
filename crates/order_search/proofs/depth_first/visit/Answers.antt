-- A layered list is a ranking that keeps the pairs.
use Rattle.std.proofs.Common.{ℕ, sym, subst}
use Rattle.order_core.specs.Rankings.{IsRanking}
use Rattle.precedence_set.proofs.LayerFacts.{layers_rank, layers_keep}
use Rattle.order_search.proofs.depth_first.visit.Goals as goal

pub ask-requires-clause-ranking : goal.ask-requires-clause-ranking
ask-requires-clause-ranking g c =
    let layered = c.layers.ensures.layered in
    subst (λ (n : ℕ). IsRanking n c.layers.new.ranks) (sym c.requires.size) (layers_rank _ _ _ layered.below layered.layers)

pub ask-requires-clause-keeps : goal.ask-requires-clause-keeps
ask-requires-clause-keeps g c = λ pair has.
    let layered = c.layers.ensures.layered in
    layers_keep _ _ _ layered.below layered.layers pair (c.requires.base pair has)
