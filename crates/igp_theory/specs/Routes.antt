-- What both protocols' tables have in common.
use Rattle.std.specs.Prelude.{ℕ, ◌<◌, ◌↔◌, length, All, Contains}
use Rattle.net_addr.specs.Addresses.{Block}
use Rattle.net_model.specs.Network.{Network}
use Rattle.route_core.specs.Hops.{AreHops}
use Rattle.route_core.specs.declared.entry.Entry.{Entry}
use Rattle.route_core.specs.declared.entry.Entry.TheVariants.{Via, Discard}

-- a protocol's tables: which entry a router has for a prefix
abbrev pub Tables : Type 1
Tables = ℕ → Block → Entry → Type 0

-- the entry forwards to exactly these hops
abbrev pub ForwardsTo : (ℕ → Type 0) → Entry → Type 0
ForwardsTo hop (Via hops) = AreHops hop hops
ForwardsTo hop Discard = ⊥

-- the entry forwards to h
abbrev pub EntryLeadsTo : Entry → ℕ → Type 0
EntryLeadsTo (Via hops) h = Contains hops h
EntryLeadsTo Discard h = ⊥

-- the hops of an entry are below n
abbrev pub HasHopsBelow : ℕ → Entry → Type 0
HasHopsBelow n (Via hops) = All (λ h. h < n) hops
HasHopsBelow n Discard = Unit {0}

-- at the routers of the network two tables have the same entries
abbrev pub HaveSameEntries : Network → Tables → Tables → Type 0
HaveSameEntries net one other = (u : ℕ) (p : Block) (e : Entry) → u < length net → one u p e ↔ other u p e
