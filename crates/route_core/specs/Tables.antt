-- Route tables as lists of entries, the entry of the longest match, and what a source of tables promises.
use Rattle.std.specs.Prelude.{◌≢◌, ℕ, ◌<◌, List, length, map, All, AllPairs, Contains}
use Rattle.std.specs.List.Sorted.{IsStrictlyIncreasing}
use Rattle.net_addr.specs.Addresses.{Block}
use Rattle.net_addr.specs.LongestMatches.{IsLongestMatch}
use Rattle.route_core.specs.declared.entry.Entry.{Entry}
use Rattle.route_core.specs.declared.entry.Entry.TheVariants.{Via}

-- no two entries are for one prefix
abbrev pub HasDistinctPrefixes : List (Block × Entry) → Type 0
HasDistinctPrefixes entries = AllPairs (λ one other. one.0 ≢ other.0) entries

-- the prefixes of a table's entries
abbrev pub table_prefixes : List (Block × Entry) → List Block
table_prefixes entries = map (λ entry. entry.0) entries

-- the table's entries have this one
abbrev pub IsListed : List (Block × Entry) → Block → Entry → Type 0
IsListed entries dest entry = Contains entries (dest, entry)

-- the entry of the longest match, of a table that has entries for prefixes
pub record LongestEntry (has : Block → Entry → Type 0) (a : ℕ) (dest : Block) (entry : Entry) : Type 0 where
  pub listed : has dest entry
  pub match : IsLongestMatch (λ p. (e : Entry) × has p e) a dest

-- a table as a relation: router u has this entry for this prefix
abbrev pub HasEntry : (ℕ → List (Block × Entry)) → ℕ → Block → Entry → Type 0
HasEntry table u = IsListed (table u)

-- hops that a router may forward to: there are some, in ascending order, and each is a router that it has a link to
pub record AreLinkedHops (routers : ℕ) (link : ℕ → Type 0) (hops : List ℕ) : Type 0 where
  pub some : 0 < length hops
  pub ascending : IsStrictlyIncreasing hops
  pub below : All (λ h. h < routers) hops
  pub linked : All (λ h. link h) hops

-- what every source of tables promises of each of its routers
pub record AreTables (routers : ℕ) (table : ℕ → List (Block × Entry)) (linked : ℕ → ℕ → Type 0) : Type 0 where
  pub distinct : (u : ℕ) → u < routers → HasDistinctPrefixes (table u)
  pub hops : (u : ℕ) (dest : Block) (hops : List ℕ) → u < routers → HasEntry table u dest (Via hops) → AreLinkedHops routers (linked u) hops
