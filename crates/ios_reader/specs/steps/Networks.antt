-- The `network` lines of an OSPF process by their places, and the tables in which the first one that takes an address
-- is looked up.
use Rattle.std.specs.Prelude.{◌≡◌, ℕ, ◌+◌, ◌≤◌, ◌%◌, ◌^◌, Bool, true, not, ◌&&◌, List, [], ◌∷◌, ◌++◌, Option, Some, None, Ok, find, filter, fold, nat_eq}
use Rattle.std.specs.Prelude.{nat_lt, bit_and, bit_or, All, if◌then◌else◌}
use Rattle.std.specs.List.{list_any}
use Rattle.std.specs.Map.{lookup}
use Rattle.ios_lines.specs.declared.ospf_line.NetworkLine.{NetworkLine}
use Rattle.ios_lines.specs.declared.ospf_line.OspfLine.{OspfLine}
use Rattle.ios_lines.specs.declared.ospf_line.OspfLine.TheVariants.{Network}
use Rattle.ios_lines.specs.declared.ospf_line.OspfStatement.{OspfStatement}
use Rattle.ios_reader.specs.declared.networks.PlacedNetwork.{PlacedNetwork}

-- a good line `network A W area N`
abbrev pub network_said : OspfLine → Option NetworkLine
network_said (Network (Ok network)) = Some network
network_said _ = None

-- such a line at its place
abbrev pub placed_at : ℕ → Option NetworkLine → List PlacedNetwork
placed_at place None = []
placed_at place (Some network) = record { place = place; network = network } ∷ []

-- the good `network` lines among some lines, of which the first one has this place
abbrev pub placed_networks : ℕ → List OspfStatement → List PlacedNetwork
placed_networks place [] = []
placed_networks place (s ∷ ss) = placed_at place (network_said s.says) ++ placed_networks (place + 1) ss

-- the lines stand in the order of their places, from this one on
abbrev pub Ascend : ℕ → List PlacedNetwork → Type 0
Ascend place [] = Unit {0}
Ascend place (line ∷ lines) = (place ≤ line.place) × Ascend (line.place + 1) lines

-- a line takes an address that agrees with its own outside the bits of its wildcard
abbrev pub takes : ℕ → PlacedNetwork → Bool
takes address line = nat_eq (bit_or address line.network.wildcard) (bit_or line.network.address line.network.wildcard)

-- ---- the tables ----

-- a wildcard without holes takes a block of addresses: its ones are its last bits
abbrev pub is_block : ℕ → Bool
is_block wildcard = nat_eq (bit_and wildcard ((wildcard + 1) % 2 ^ 32)) 0

-- the block of a line: its wildcard, and what its addresses have in common, with the bits of the wildcard set
abbrev pub block_key : NetworkLine → ℕ × ℕ
block_key network = (network.wildcard, bit_or network.address network.wildcard)

-- two blocks are the same
abbrev pub same_block : ℕ × ℕ → ℕ × ℕ → Bool
same_block a b = nat_eq a.0 b.0 && nat_eq a.1 b.1

-- the addresses of a line are this block
abbrev pub is_of_block : ℕ × ℕ → PlacedNetwork → Bool
is_of_block key line = is_block line.network.wildcard && same_block key (block_key line.network)

-- a wildcard is there
abbrev pub has_wildcard : List ℕ → ℕ → Bool
has_wildcard wildcards wildcard = list_any (λ w. nat_eq w wildcard) wildcards

-- each wildcard without holes is there
abbrev pub HasWildcards : List PlacedNetwork → List ℕ → Type 0
HasWildcards all wildcards =
    All (λ (line : PlacedNetwork). is_block line.network.wildcard ≡ true → has_wildcard wildcards line.network.wildcard ≡ true) all

-- the first line of each block, the wildcards without holes, and the lines whose wildcards have holes
pub record AreNetworkTables (all : List PlacedNetwork) (blocks : List ((ℕ × ℕ) × PlacedNetwork)) (wildcards : List ℕ)
    (others : List PlacedNetwork) : Type 0 where
  pub ascend : Ascend 0 all
  pub firsts : (key : ℕ × ℕ) → lookup (same_block key) blocks ≡ find (is_of_block key) all
  pub has_wildcards : HasWildcards all wildcards
  pub with_holes : others ≡ filter (λ (line : PlacedNetwork). not (is_block line.network.wildcard)) all

-- ---- looking up ----

-- of two lines the one that stands first
abbrev pub earlier_line : Option PlacedNetwork → Option PlacedNetwork → Option PlacedNetwork
earlier_line None second = second
earlier_line (Some first) None = Some first
earlier_line (Some first) (Some second) = if nat_lt second.place first.place then Some second else Some first

-- of the lines that a table has of the blocks that have the address, each by one of these wildcards, the first one
abbrev pub first_of_blocks : (ℕ × ℕ → Option PlacedNetwork) → List ℕ → ℕ → Option PlacedNetwork
first_of_blocks table wildcards address =
    fold (λ (found : Option PlacedNetwork) (wildcard : ℕ). earlier_line found (table (wildcard, bit_or address wildcard))) None wildcards
