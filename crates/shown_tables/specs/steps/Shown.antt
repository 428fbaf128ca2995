-- Texts that grow by the lines of entries.
use Rattle.igp_theory.specs.Routes.{HasHopsBelow}
use Rattle.std.specs.Prelude.{◌≡◌, ℕ, ◌<◌, ◌++◌, List}
use Rattle.net_addr.specs.Addresses.{Block}
use Rattle.route_core.specs.Tables.{IsListed}
use Rattle.route_core.specs.declared.entry.Entry.{Entry}
use Rattle.igp_theory.specs.Migrations.{Migration}
use Rattle.shown_tables.specs.ShownEntries.{AreInShownOrder, ShownEntry, tables_by}
use Rattle.shown_tables.specs.TablesTexts.{shown_text}
use Rattle.shown_tables.specs.declared.igp.Igp.{Igp}

-- the hops of all entries of a table are below n
abbrev pub HaveHopsBelow : ℕ → List (Block × Entry) → Type 0
HaveHopsBelow n table = (dest : Block) (entry : Entry) → IsListed table dest entry → HasHopsBelow n entry

-- an entry of this table, which is the router's by the protocol
pub record IsOfShownTable (router : ℕ) (igp : Igp) (table : List (Block × Entry)) (one : ShownEntry) : Type 0 where
  pub router_is : one.router ≡ router
  pub igp_is : one.igp ≡ igp
  pub among : IsListed table one.dest one.entry

-- an entry of this router, and of a router below n
pub record IsOfRouter (move : Migration) (router : ℕ) (one : ShownEntry) : Type 0 where
  pub router_is : one.router ≡ router
  pub entry : tables_by move one.igp one.router one.dest one.entry

pub record IsOfRouterBelow (move : Migration) (n : ℕ) (one : ShownEntry) : Type 0 where
  pub below : one.router < n
  pub entry : tables_by move one.igp one.router one.dest one.entry

-- a text with the lines more of the entries of which P holds, each once and in their order
pub record Shows (names : List (List ℕ)) (P : ShownEntry → Type 0) (text longer : List ℕ) : Type 0 where
  pub all : List ShownEntry
  pub in_order : AreInShownOrder P all
  pub longer_is : longer ≡ text ++ shown_text names all
