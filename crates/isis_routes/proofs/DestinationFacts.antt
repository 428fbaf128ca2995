-- Destinations by their prefixes and places.
use Rattle.std.proofs.lemmas.Grind.{common_steps}
use Rattle.std.proofs.Common.{◌≡◌, ℕ, ◌+◌, ◌<◌, List, [], ◌∷◌, ◌++◌, length, All, Contains, Some, get_or, slice_get, sym, ap}
use Rattle.std.proofs.Common.{subst, ◌∙◌, arith}
use Rattle.std.proofs.lemmas.List.{get_or-map, get_or_append_left, get_or_push}
use Rattle.std.proofs.lemmas.Option.{get_or_from_slice_get, slice_get_within}
use Rattle.net_addr.specs.Addresses.{Block, default_prefix}
use Rattle.net_model.specs.Network.{Network}
use Rattle.route_tables.specs.Prefixes.{AreDistinctPrefixes, prefix_at}
use Rattle.route_tables.proofs.ListFacts.{at_most}
use Rattle.isis_routes.specs.steps.Candidates.{IsIsisCandidate}
use Rattle.isis_routes.specs.steps.Destinations.{HasAnnouncements, AreIsisDestinations, isis_prefixes}
use Rattle.isis_routes.specs.declared.destinations.Destination.{Destination}

-- destinations of distinct candidates
pub are_destinations : (net : Network) (all : List Destination) (dests : List Block) → isis_prefixes all ≡ dests → All (HasAnnouncements net) all →
    AreDistinctPrefixes dests → ((p : Block) → IsIsisCandidate net p → Contains dests p) → AreIsisDestinations net all
are_destinations net all dests same announced distinct every = record {
  announced = announced;
  distinct = subst AreDistinctPrefixes (sym same) distinct;
  every = λ p is. subst (λ (l : List Block). Contains l p) (sym same) (every p is);
}

-- what holds of all destinations holds of one of them, whose prefix is that at its place
pub at_place : (net : Network) (all : List Destination) (k : ℕ) (d : Destination) → All (HasAnnouncements net) all → slice_get all k ≡ Some d →
    HasAnnouncements net d × (prefix_at (isis_prefixes all) k ≡ d.one.dest)
at_place net all k d every here =
    let within : k < length all = slice_get_within all k d here in
    let read : get_or all k d ≡ d = get_or_from_slice_get all k d d here in (
      subst (HasAnnouncements net) read (every k d within),
      get_or-map (λ (x : Destination). x.one.dest) all k d default_prefix within ∙ ap (λ (x : Destination). x.one.dest) read,
    )

-- Lists beside that of the destinations, element by element

pub pushed_count : {Y : Type 0} (ys new : List Y) (n : ℕ) (y : Y) → length ys ≡ n → new ≡ ys ++ y ∷ [] → length new ≡ n + 1
pushed_count {Y} ys new n y long pushed = grind (arith, common_steps)

-- what holds of each element so far, and of one more
pub each_pushed : {Y : Type 0} (R : ℕ → Y → Type 0) (ys new : List Y) (n : ℕ) (y d : Y) → length ys ≡ n → new ≡ ys ++ y ∷ [] →
    ((k : ℕ) → k < n → R k (get_or ys k d)) → R n y → (k : ℕ) → k < n + 1 → R k (get_or new k d)
each_pushed {Y} R ys new n y d long pushed before here k below =
    grind (arith, common_steps, at_most, get_or_append_left, get_or_push)
