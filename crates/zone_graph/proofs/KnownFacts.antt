-- Walks that are kept, and lists of kept zones.
use Rattle.std.proofs.Common.{ℕ, List, [], ◌∷◌, ◌++◌, length, sym, subst}
use Rattle.std.proofs.lemmas.List.Elements.{Contains-append_left}
use Rattle.net_model.specs.Network.{Network}
use Rattle.net_model.specs.declared.zone.Zone.{Zone}
use Rattle.walk_core.specs.Reach.{Reach}
use Rattle.walk_core.specs.declared.segment.Port.{Port}
use Rattle.zone_graph.specs.KnownWalks.{KnowsZone}
use Rattle.zone_graph.specs.Walks.{AreLeastOver}
use Rattle.zone_graph.specs.declared.known_walks.KnownZone.{KnownZone}

-- there are as many walks as routers
pub over_their_count : (count : ℕ) (segments : List (List Port)) (walks : List Reach) → AreLeastOver count segments walks →
    AreLeastOver (length walks) segments walks
over_their_count count segments walks over = subst (λ (n : ℕ). AreLeastOver n segments walks) (sym over.long) over

-- what is known stays known when one more zone is kept
pub knows_more : (net : Network) (known : List KnownZone) (kept : KnownZone) (other : Zone) → KnowsZone net known other →
    KnowsZone net (known ++ kept ∷ []) other
knows_more net known kept other knows =
    record { kept = knows.kept; among = Contains-append_left known (kept ∷ []) knows.kept knows.among; segments = knows.segments }
