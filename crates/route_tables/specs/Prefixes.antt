-- Lists of prefixes, each once.
use Rattle.std.specs.Prelude.{◌≢◌, ℕ, List, slice_index_or, AllPairs}
use Rattle.std.specs.List.Sorted.{IsNonDecreasingBy}
use Rattle.net_addr.specs.Addresses.{Block, default_prefix}

-- no two of the prefixes are the same
abbrev pub AreDistinctPrefixes : List Block → Type 0
AreDistinctPrefixes dests = AllPairs (λ (p q : Block). p ≢ q) dests

-- the prefixes stand in the order of the addresses that they begin with
abbrev pub BeginInOrder : List Block → Type 0
BeginInOrder dests = IsNonDecreasingBy (λ (p : Block). p.base) dests

-- the prefix at a place of the list
abbrev pub prefix_at : List Block → ℕ → Block
prefix_at dests place = slice_index_or dests place default_prefix
