-- Entries of one prefix and of another, and tables that are made router by router.
use Rattle.std.specs.Prelude.{◌≡◌, ◌<◌, ◌↔◌, ℕ, List, [], length, slice_index_or, Contains}
use Rattle.net_addr.specs.Addresses.{Block}
use Rattle.route_core.specs.Tables.{HasDistinctPrefixes}
use Rattle.route_core.specs.declared.entry.Entry.{Entry}

-- both prefixes have the same entries
abbrev pub AreSameEntries : (Block → Entry → Type 0) → Block → Block → Type 0
AreSameEntries entry one other = (e : Entry) → entry one e ↔ entry other e

-- the table has these entries, and no others
pub record IsTableOf (entry : Block → Entry → Type 0) (table : List (Block × Entry)) : Type 0 where
  pub distinct : HasDistinctPrefixes table
  pub exact : (p : Block) (e : Entry) → Contains table (p, e) ↔ entry p e

-- these are the tables of the routers below n
pub record AreTablesBelow (entry : ℕ → Block → Entry → Type 0) (n : ℕ) (tables : List (List (Block × Entry))) : Type 0 where
  pub count : length tables ≡ n
  pub each : (u : ℕ) → u < n → IsTableOf (entry u) (slice_index_or tables u [])
