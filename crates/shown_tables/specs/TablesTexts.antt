-- The text of the tables of a network, which is one.
use Rattle.std.specs.Prelude.{◌≡◌, ℕ, List, map}
use Rattle.net_model.specs.RouterNames.{names_of}
use Rattle.printed_lines.specs.Texts.{text_of}
use Rattle.igp_theory.specs.Laws.{HaveSameTables}
use Rattle.igp_theory.specs.Migrations.{Migration, retabled}
use Rattle.igp_theory.specs.Routes.{Tables}
use Rattle.shown_tables.specs.EntryLines.{shown_line}
use Rattle.shown_tables.specs.ShownEntries.{AreInShownOrder, IsHad, ShownEntry}

-- the text of some entries, where these are the names of the routers
abbrev pub shown_text : List (List ℕ) → List ShownEntry → List ℕ
shown_text names all = text_of (map (shown_line names) all)

-- the text of the tables: a line for each entry that a router has, in their order
pub record IsTablesText (move : Migration) (text : List ℕ) : Type 0 where
  pub all : List ShownEntry
  pub in_order : AreInShownOrder (IsHad move) all
  pub text_is : text ≡ shown_text (names_of move.net) all

-- there is one text
abbrev pub HasOneTablesText : Migration → Type 0
HasOneTablesText move = (text other : List ℕ) → IsTablesText move text → IsTablesText move other → text ≡ other

-- and it is that of any tables with the same entries
abbrev pub SameTablesText : Migration → Tables → Tables → Type 0
SameTablesText move other_old other_new =
    (text : List ℕ) → HaveSameTables move other_old other_new → IsTablesText move text →
    IsTablesText (retabled move other_old other_new) text
