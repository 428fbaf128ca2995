-- Tables in the making: entries that all tables share, and the numbers of a table's own.
use Rattle.std.specs.Prelude.{◌≡◌, ◌<◌, ◌⊎◌, ◌↔◌, ℕ, List, [], ◌∷◌, ◌++◌, length, None, Option, IfSome, MatchOption, Contains, slice_index_or}
use Rattle.std.specs.List.Sorted.{IsStrictlyIncreasing}
use Rattle.walk_core.specs.Reach.{Reach, HasHop}
use Rattle.net_addr.specs.Addresses.{Block}
use Rattle.route_core.specs.Rows.{KeptTable}
use Rattle.route_core.specs.declared.entry.Entry.{Entry}
use Rattle.route_core.specs.declared.entry.Entry.TheVariants.{Via, Discard}
use Rattle.route_tables.specs.Lanes.{DecidesAt, DecidesBeyond}
use Rattle.route_tables.specs.steps.Entries.{AreSameEntries}
use Rattle.route_tables.specs.Protocols.{ProtocolRoutes}
use Rattle.route_tables.specs.declared.lane.Decision.TheVariants.{Unknown}
use Rattle.route_tables.specs.declared.pool.Pool.{Pool}
use Rattle.route_tables.specs.declared.sharing.TwoMakers.{TwoMakers}
use Rattle.route_tables.specs.declared.sharing.RouterLane.{RouterLane}
use Rattle.route_tables.specs.declared.table.RouterNumbers.{RouterNumbers}
use Rattle.route_tables.specs.steps.Kinds.{AreKinds, first_prefix_of, open_behind}

-- the entry of the number is one that is wanted
pub record HasNumber (wanted : Entry → Type 0) (entries : List Entry) (number : ℕ) : Type 0 where
  pub below : number < length entries
  pub is : wanted (slice_index_or entries number Discard)

-- there is a number, and its entry is so
abbrev pub HasSomeNumber : (Entry → Type 0) → List Entry → Option ℕ → Type 0
HasSomeNumber wanted entries number = MatchOption number ⊥ (HasNumber wanted entries)

-- the hops are the first hops below n towards either of two vertices, in ascending order
pub record AreHopsToEither (reach : Reach) (makers : TwoMakers) (n : ℕ) (hops : List ℕ) : Type 0 where
  pub ascending : IsStrictlyIncreasing hops
  pub exact : (h : ℕ) → Contains hops h ↔ ((h < n) × (HasHop reach makers.one h ⊎ HasHop reach makers.other h))

-- the entry forwards to these
pub record IsEntryToEither (reach : Reach) (makers : TwoMakers) (n : ℕ) (entry : Entry) : Type 0 where
  pub hops : List ℕ
  pub is : entry ≡ Via hops
  pub are : AreHopsToEither reach makers n hops

-- or there is none, where no entry is wanted
abbrev pub IsNumberOf : (Entry → Type 0) → List Entry → Option ℕ → Type 0
IsNumberOf wanted entries number = MatchOption number ((e : Entry) → wanted e → ⊥) (HasNumber wanted entries)

-- the entry over each hop below n alone has the number of the hop
abbrev pub AreOverOne : ℕ → List Entry → Type 0
AreOverOne n entries = (hop : ℕ) → hop < n → HasNumber (λ entry. entry ≡ Via (hop ∷ [])) entries hop

-- these are the numbers of the entries that are wanted for the kinds below k
pub record AreNumbers (wanted : ℕ → Entry → Type 0) (k : ℕ) (entries : List Entry) (numbers : List (Option ℕ)) : Type 0 where
  pub count : length numbers ≡ k
  pub each : (kind : ℕ) → kind < k → IsNumberOf (wanted kind) entries (slice_index_or numbers kind None)

-- entries may have come
pub record KeepsMore (old new : Pool) : Type 0 where
  pub more : List Entry
  pub entries : new.entries.items ≡ old.entries.items ++ more

-- this entry has come under the number
pub record Keeps (old new : Pool) (entry : Entry) (number : ℕ) : Type 0 where
  pub number_is : number ≡ length old.entries.items
  pub entries : new.entries.items ≡ old.entries.items ++ entry ∷ []

-- the lane is that of a router, with what decides its routes for the first prefix of each kind, and its walks of the zone
-- over which the offers are reached that decide, and the same behind
pub record IsRouterLane (routes : ProtocolRoutes) (dests : List Block) (lane : RouterLane) : Type 0 where
  pub router : lane.router < routes.routers
  pub count : lane.count ≡ routes.routers
  pub zone : ℕ
  pub walks : IfSome lane.walks (λ walks. walks.now ≡ routes.reach lane.router zone)
  pub long : length lane.decisions.now ≡ length lane.firsts.now
  pub decides : (kind : ℕ) → kind < length lane.firsts.now →
      DecidesAt routes zone lane.router (first_prefix_of dests lane.firsts.now kind) (slice_index_or lane.decisions.now kind Unknown)
  pub zone_behind : ℕ
  pub walks_behind : IfSome lane.walks_behind (λ walks. walks.now ≡ routes.reach lane.router zone_behind)
  pub behind : (kind : ℕ) → kind < length lane.behind.now →
      DecidesBeyond routes (routes.reach lane.router zone) zone_behind lane.router (first_prefix_of dests lane.firsts.now kind)
      (slice_index_or lane.behind.now kind open_behind)

-- these are the numbers of a router's entries, for kinds of prefixes that are alike for it
pub record AreRouterNumbers (entry : Block → Entry → Type 0) (dests : List Block) (entries : List Entry) (own : RouterNumbers) : Type 0 where
  pub firsts : List ℕ
  pub kinds : AreKinds (AreSameEntries entry) dests (length dests) own.kinds.value.items firsts
  pub numbers : AreNumbers (λ kind. entry (first_prefix_of dests firsts kind)) (length firsts) entries own.numbers.items

-- the numbers of the entries of the routers below n
pub record AreRouterNumbersBelow (entry : ℕ → Block → Entry → Type 0) (n : ℕ) (dests : List Block) (entries : List Entry) (all : List RouterNumbers) :
    Type 0 where
  pub count : length all ≡ n
  pub each : (u : ℕ) (own : RouterNumbers) → u < n → AreRouterNumbers (entry u) dests entries (slice_index_or all u own)

-- the table that keeps the numbers of a router
abbrev pub kept_with : List Block → List Entry → RouterNumbers → KeptTable
kept_with dests entries own =
    record { prefixes = dests; kinds = own.kinds.value.items; numbers = own.numbers.items; entries = entries }
