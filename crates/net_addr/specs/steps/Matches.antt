-- The longest matches of a list of addresses.
use Rattle.std.specs.Prelude.{◌≡◌, ℕ, ◌<◌, List, length, slice_index, slice_index_or, Option, None}
use Rattle.net_addr.specs.Addresses.{Block}
use Rattle.net_addr.specs.declared.matches.Match.{Match}
use Rattle.net_addr.specs.LongestMatches.{IsMatch}

-- the same for each of some addresses
pub record AreMatches (prefixes : List Block) (addresses : List ℕ) (found : List (Option Match)) : Type 0 where
  pub count : length found ≡ length addresses
  pub each : (i : ℕ) → i < length addresses → IsMatch prefixes (slice_index addresses i) (slice_index_or found i None)
