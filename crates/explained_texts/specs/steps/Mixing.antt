-- What tables keep, and parts of lines: hops that have a name, and the routers at which a prefix is connected.
use Rattle.std.specs.Prelude.{◌≡◌, ℕ, ◌<◌, ◌↔◌, ◌++◌, List, length, map, AllPairs, Contains}
use Rattle.net_addr.specs.Addresses.{Block, IsBlock}
use Rattle.net_model.specs.Network.{Connected, Network}
use Rattle.net_model.specs.Refusals.{IsNetwork}
use Rattle.net_model.specs.RouterNames.{names_of}
use Rattle.igp_theory.specs.Migrations.{Migration}
use Rattle.printed_lines.specs.Words.{router_word, spaced}
use Rattle.route_core.specs.declared.entry.Entry.{Entry}
use Rattle.explained_texts.specs.TextLaws.{HasOneEntry}

-- the routers below n at which a prefix is connected, ascending
pub record AreOriginatorsBelow (net : Network) (p : Block) (n : ℕ) (routers : List ℕ) : Type 0 where
  pub exact : (u : ℕ) → Contains routers u ↔ ((u < n) × Connected net u p)
  pub ascending : AllPairs (λ u v. u < v) routers

-- a line with the names of them more
pub record NamesOriginators (net : Network) (p : Block) (n : ℕ) (line longer : List ℕ) : Type 0 where
  pub routers : List ℕ
  pub are : AreOriginatorsBelow net p n routers
  pub longer_is : longer ≡ line ++ spaced (map (router_word (names_of net)) routers)

-- what the tables of a network keep: of each router one entry for a prefix, and prefixes that are blocks of addresses
pub record HasLawfulTables (move : Migration) : Type 0 where
  pub network : IsNetwork move.net
  pub one_old : HasOneEntry move.net move.old
  pub one_new : HasOneEntry move.net move.new
  pub old_blocks : (u : ℕ) (p : Block) (e : Entry) → u < length move.net → move.old u p e → IsBlock p
  pub new_blocks : (u : ℕ) (p : Block) (e : Entry) → u < length move.net → move.new u p e → IsBlock p
