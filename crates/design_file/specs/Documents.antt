-- The document that a text is, and the values in its tables.
use Rattle.std.specs.Prelude.{◌≡◌, ◌⊎◌, List, ℕ, Option, Some, option_and_then, IsUtf8}
use Rattle.toml.specs.Data.{Data, Members, no_members, member, table, get_member}
use Rattle.toml.specs.Parse.{parse_document}
use Rattle.ios_lines.specs.Words.{Word}

-- the text is UTF-8 and, as TOML, this document
pub record IsDocument (text : List ℕ) (document : Members) : Type 0 where
  pub utf8 : IsUtf8 text
  pub parsed : parse_document text ≡ Some document

-- an entry of the table has this key and this value
abbrev pub HasMember : Members → Word → Data → Type 0
HasMember no_members key value = ⊥
HasMember (member word its more) key value = ((word ≡ key) × (its ≡ value)) ⊎ HasMember more key value

-- what the value at a key says
abbrev pub said_at : {T : Type 0} → (Data → Option T) → Word → Members → Option T
said_at says key members = option_and_then says (get_member key members)

-- the entries of a value that is a table
abbrev pub entries_of : Option Data → Members
entries_of (Some (table members)) = members
entries_of _ = no_members

-- the table at a key, empty where there is none
abbrev pub entries_at : Word → Members → Members
entries_at key members = entries_of (get_member key members)
