-- Prefixes with the same routes.
use Rattle.std.specs.Prelude.{◌≡◌, ◌≢◌, ◌<◌, ℕ, List, Option, None, Some, slice_get, slice_index_or}
use Rattle.net_addr.specs.Addresses.{default_prefix}
use Rattle.route_tables.specs.AlikeOffers.{AreAlikeOffers}
use Rattle.isis_routes.specs.declared.destinations.Destination.{Destination}

-- two destinations have the same homes, neither is the prefix of all addresses, and what is offered and announced of them
-- differs by constants
pub record AreAlikeDestinations (one other : Destination) : Type 0 where
  pub homes : one.one.homes.items ≡ other.one.homes.items
  pub one_part : one.one.dest ≢ default_prefix
  pub other_part : other.one.dest ≢ default_prefix
  pub level_one : AreAlikeOffers one.one.offers.items other.one.offers.items
  pub level_two : AreAlikeOffers one.two.items other.two.items
  pub down : AreAlikeOffers one.down.items other.down.items

-- an earlier destination is alike
pub record IsEarlierAlike (destinations : List Destination) (place earlier : ℕ) : Type 0 where
  pub before : earlier < place
  pub one : Destination
  pub other : Destination
  pub one_at : slice_get destinations earlier ≡ Some one
  pub other_at : slice_get destinations place ≡ Some other
  pub alike : AreAlikeDestinations one other

-- each destination's earlier one is alike, where one is named
abbrev pub AreEarlierAlike : List Destination → List (Option ℕ) → Type 0
AreEarlierAlike destinations named =
    (place earlier : ℕ) → slice_index_or named place None ≡ Some earlier → IsEarlierAlike destinations place earlier
