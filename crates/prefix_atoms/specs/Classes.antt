-- Classes of addresses that no prefix of the network or of two sources of tables tells apart.
use Rattle.std.specs.Prelude.{◌≡◌, ℕ, ◌^◌, ◌<◌, ◌↔◌, List, length, slice_index, slice_get, Option, Some, None, All, Contains}
use Rattle.std.specs.List.Sorted.{IsStrictlyIncreasing}
use Rattle.net_addr.specs.Addresses.{Block}
use Rattle.net_addr.specs.Boundaries.{SameBlocksContain}
use Rattle.net_model.specs.Configuration.{Configuration}
use Rattle.net_model.specs.Network.{Network, HasConfiguration, Connected}
use Rattle.net_model.specs.declared.area.Range.{Range}
use Rattle.route_core.specs.Tables.{HasEntry}
use Rattle.route_core.specs.declared.entry.Entry.{Entry}
use Rattle.igp_theory.specs.Forwarding.{IsTarget}
use Rattle.igp_theory.specs.Migrations.{Migration}
use Rattle.igp_theory.specs.Routes.{Tables}
use Rattle.prefix_atoms.specs.Nested.{AreNested, AreTops}

-- the tables of one source as a relation: router u, one of so many, has this entry for this prefix
abbrev pub SourceEntry : ℕ → (ℕ → List (Block × Entry)) → Tables
SourceEntry routers table u p e = (u < routers) × HasEntry table u p e

-- p is the prefix of a range of router u
pub record HasRangeOf (net : Network) (u : ℕ) (p : Block) : Type 0 where
  pub config : Configuration
  pub router : HasConfiguration net u config
  pub range : Range
  pub among : Contains config.ranges range
  pub dest : range.dest ≡ p

-- a prefix occurs where it is connected, where it is a range's, and where a table has an entry for it
pub data Occurs (move : Migration) (p : Block) : Type 0 where
  connected_occurs : (u : ℕ) → Connected move.net u p → Occurs move p
  range_occurs : (u : ℕ) → HasRangeOf move.net u p → Occurs move p
  old_occurs : (u : ℕ) (e : Entry) → move.old u p e → Occurs move p
  new_occurs : (u : ℕ) (e : Entry) → move.new u p e → Occurs move p

-- two addresses are in one class where the same prefixes contain them; the samples are the least
-- addresses of all classes, in ascending order
pub record AreSamples (prefixes : List Block) (samples : List ℕ) : Type 0 where
  pub ascending : IsStrictlyIncreasing samples
  pub addresses : All (λ s. s < 2 ^ 32) samples
  pub least : (k a : ℕ) → k < length samples → a < slice_index samples k → SameBlocksContain prefixes (slice_index samples k) a → ⊥
  pub all : (a : ℕ) → a < 2 ^ 32 → (k : ℕ) × (k < length samples) × SameBlocksContain prefixes (slice_index samples k) a

-- classes of addresses: the prefixes that tell them apart, each with the place of its parent, their samples, and for each
-- class the place of its longest prefix and its target
pub record Classes : Type 0 where
  pub prefixes : List Block
  pub parents : List (Option ℕ)
  pub samples : List ℕ
  pub tops : List (Option ℕ)
  pub targets : List (Option Block)

-- address a is in class k: the same prefixes contain a and the class's sample
pub record IsInClass (c : Classes) (k a : ℕ) : Type 0 where
  pub class : k < length c.samples
  pub address : a < 2 ^ 32
  pub alike : SameBlocksContain c.prefixes (slice_index c.samples k) a

-- the address has this target, or none
abbrev pub HasTarget : Network → ℕ → Option Block → Type 0
HasTarget net a None = (p : Block) → IsTarget net a p → ⊥
HasTarget net a (Some p) = IsTarget net a p

-- what every value of classes keeps
pub record IsClassing (c : Classes) : Type 0 where
  pub samples : AreSamples c.prefixes c.samples
  pub nested : AreNested c.prefixes c.parents
  pub tops : AreTops c.prefixes c.samples c.tops
  pub targets : length c.targets ≡ length c.samples

-- the classes of a migration: their prefixes are those that occur, and all addresses of a
-- class have its target
pub record AreClasses (move : Migration) (c : Classes) : Type 0 where
  pub occur : (p : Block) → Contains c.prefixes p ↔ Occurs move p
  pub classing : IsClassing c
  pub target : (k a : ℕ) (t : Option Block) → IsInClass c k a → slice_get c.targets k ≡ Some t → HasTarget move.net a t
