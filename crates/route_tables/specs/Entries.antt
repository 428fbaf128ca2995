-- The entries that a protocol gives routers, as tables, and its neighbors, by segments.
use Rattle.std.specs.Prelude.{◌≡◌, ◌<◌, ◌≤◌, ◌↔◌, ℕ, List}
use Rattle.net_addr.specs.Addresses.{Block}
use Rattle.walk_core.specs.Segments.{SendsAcross}
use Rattle.walk_core.specs.declared.segment.Port.{Port}
use Rattle.route_core.specs.Tables.{AreLinkedHops}
use Rattle.route_core.specs.declared.entry.Entry.{Entry}
use Rattle.route_core.specs.declared.entry.Entry.TheVariants.{Via}

-- what every protocol keeps: there are at most 200 routers, a router has one entry for a prefix at most, the hops of
-- an entry are neighbors, and neighbors are routers
pub record IsLawful (routers : ℕ) (entry : ℕ → Block → Entry → Type 0) (neighbor : ℕ → ℕ → Type 0) : Type 0 where
  pub few : routers ≤ 200
  pub single : (u : ℕ) (p : Block) (e f : Entry) → entry u p e → entry u p f → e ≡ f
  pub hops : (u : ℕ) (p : Block) (hops : List ℕ) → entry u p (Via hops) → AreLinkedHops routers (neighbor u) hops
  pub within : (u v : ℕ) → neighbor u v → v < routers

-- the routers of which this holds have the same entries for both prefixes
abbrev pub AreAlikeFor : (ℕ → Type 0) → (ℕ → Block → Entry → Type 0) → Block → Block → Type 0
AreAlikeFor router entry one other = (u : ℕ) (e : Entry) → router u → entry u one e ↔ entry u other e

-- the routers below n have the same entries for both prefixes
abbrev pub AreAlikePrefixes : ℕ → (ℕ → Block → Entry → Type 0) → Block → Block → Type 0
AreAlikePrefixes n = AreAlikeFor (λ u. u < n)

-- u sends to v over one of the segments
pub record AreJoined (segments : List (List Port)) (u v : ℕ) : Type 0 where
  pub cost : ℕ
  pub sends : SendsAcross segments u v cost

-- two routers are joined by the segments where they are neighbors
abbrev pub AreJoinedBy : (ℕ → ℕ → Type 0) → List (List Port) → Type 0
AreJoinedBy neighbor segments = (u v : ℕ) → AreJoined segments u v ↔ neighbor u v
