-- A layered list is a ranking.
use Rattle.std.proofs.Common.{refl}
use Rattle.precedence_set.proofs.LayerFacts.{layers_rank}
use Rattle.order_search.proofs.ending.found_waves.Goals as goal

pub from_ranks-requires-clause-ranking : goal.from_ranks-requires-clause-ranking
from_ranks-requires-clause-ranking c =
    let layered = c.requires.layered in
    let ranking = layers_rank _ _ _ layered.below layered.layers in
    rw c.deref.ensures.value (record { each = refl; whole = ranking.whole })
