-- Forwarding by longest match and administrative distance, over a migration.
use Rattle.std.specs.Prelude.{◌≡◌, ◌≢◌, ℕ, ◌<◌, ◌≤◌, ◌⊎◌, length, Some, IsTrue, IsSome}
use Rattle.net_addr.specs.Addresses.{Block, ContainsAddress}
use Rattle.net_addr.specs.LongestMatches.{IsLongestMatch}
use Rattle.net_model.specs.Configuration.{Configuration}
use Rattle.net_model.specs.Network.{Network, HasConfiguration, UpInterface, Connected}
use Rattle.net_model.specs.declared.bounds.TheConstants.{ISIS_DISTANCE, MOST_DISTANCE}
use Rattle.net_model.specs.declared.interface.Interface.{Interface}
use Rattle.route_core.specs.declared.entry.Entry.{Entry}
use Rattle.igp_theory.specs.Migrations.{Migration}
use Rattle.igp_theory.specs.Routes.{EntryLeadsTo}
use Rattle.igp_theory.specs.declared.phase.Phase.{Phase}
use Rattle.igp_theory.specs.declared.phase.Phase.TheVariants.{Old, Middle, New}

-- Targets

-- p is the subnet of an up interface that runs OSPF or a level of IS-IS
pub record IsOriginated (net : Network) (p : Block) : Type 0 where
  pub router : ℕ
  pub interface : Interface
  pub up : UpInterface net router interface
  pub subnet : interface.subnet ≡ Some p
  pub runs : IsSome interface.area ⊎ IsTrue interface.level1 ⊎ IsTrue interface.level2

-- the target of an address is the longest originated prefix that contains it; its originators are
-- the routers at which that prefix is connected
abbrev pub IsTarget : Network → ℕ → Block → Type 0
IsTarget net = IsLongestMatch (IsOriginated net)

-- The entries that count

-- what a router can use: a connected prefix, an entry of the old table, one of the new table
pub data Usable : Type 0 where
  connected : Usable
  of_old : Entry → Usable
  of_new : Entry → Usable

-- a kind of entries that count: by their prefix, distance and what is used
abbrev pub Kind : Type 1
Kind = Block → ℕ → Usable → Type 0

-- OSPF counts in the phases Old and Middle, IS-IS in Middle and New
abbrev pub OldCounts : Phase → Type 0
OldCounts Old = Unit {0}
OldCounts Middle = Unit {0}
OldCounts New = ⊥

abbrev pub NewCounts : Phase → Type 0
NewCounts Old = ⊥
NewCounts Middle = Unit {0}
NewCounts New = Unit {0}

-- at router u in a phase this entry for p counts, at this distance: a connected prefix at 0, the old
-- table at the router's OSPF distance unless that is the greatest, the new table at 115
pub data Counts (move : Migration) (u : ℕ) (phase : Phase) (p : Block) : ℕ → Usable → Type 0 where
  connected_counts : Connected move.net u p → Counts move u phase p 0 connected
  old_counts : {distance : ℕ} {e : Entry} → OldCounts phase → (c : Configuration) → HasConfiguration move.net u c →
      c.distances.ospf ≡ distance → distance ≢ MOST_DISTANCE → move.old u p e → Counts move u phase p distance (of_old e)
  new_counts : {e : Entry} → NewCounts phase → move.new u p e → Counts move u phase p ISIS_DISTANCE (of_new e)

-- the used entry of an address: of the entries that count and contain it the longest, and of these
-- the one of lowest distance
pub record Uses (move : Migration) (u : ℕ) (phase : Phase) (a : ℕ) (used : Usable) : Type 0 where
  pub prefix : Block
  pub distance : ℕ
  pub counts : Counts move u phase prefix distance used
  pub contains : ContainsAddress prefix a
  pub longest : (q : Block) (d : ℕ) (other : Usable) → Counts move u phase q d other → ContainsAddress q a → q.len ≤ prefix.len
  pub lowest : (q : Block) (d : ℕ) (other : Usable) → Counts move u phase q d other → ContainsAddress q a →
      q.len ≡ prefix.len → distance ≤ d

-- Steps

-- the used entry forwards to h; a connected prefix, a discard entry and no entry forward nowhere
abbrev pub LeadsTo : Usable → ℕ → Type 0
LeadsTo connected h = ⊥
LeadsTo (of_old e) h = EntryLeadsTo e h
LeadsTo (of_new e) h = EntryLeadsTo e h

-- router u has to pass on packets for a: a has a target, and u isn't one of its originators
pub record MustForward (net : Network) (a u : ℕ) : Type 0 where
  pub router : u < length net
  pub target : Block
  pub is_target : IsTarget net a target
  pub away : Connected net u target → ⊥

-- such a router steps to each hop of its used entry
pub record Steps (move : Migration) (u : ℕ) (phase : Phase) (a h : ℕ) : Type 0 where
  pub must : MustForward move.net a u
  pub used : Usable
  pub uses : Uses move u phase a used
  pub leads : LeadsTo used h

-- router u has a step for a
pub record HasStep (move : Migration) (u : ℕ) (phase : Phase) (a : ℕ) : Type 0 where
  pub hop : ℕ
  pub steps : Steps move u phase a hop
