-- What is kept for each router and sort of prefixes: what is used in each phase.
use Rattle.std.specs.Prelude.{◌≡◌, ◌↔◌, ◌<◌, ℕ, List, length, Option, Some, None, slice_get, slice_index_or}
use Rattle.route_core.specs.declared.entry.Entry.{Entry}
use Rattle.igp_theory.specs.Forwarding.{Usable, connected, of_old, of_new}
use Rattle.igp_theory.specs.declared.phase.Phase.{Phase}
use Rattle.igp_theory.specs.declared.phase.Phase.TheVariants as phase
use Rattle.rib_mix.specs.Sites.{Site, UsesAt}
use Rattle.rib_mix.specs.declared.cell.Cell.{Cell}
use Rattle.rib_mix.specs.declared.used.Used.{Used}
use Rattle.rib_mix.specs.declared.used.Used.TheVariants as used

-- nothing is used
abbrev pub no_cell : Cell
no_cell = record { middle = used.Nothing; other = used.Nothing }

-- what is used for a sort of prefixes, if there is one
abbrev pub cell_at : List Cell → Option ℕ → Cell
cell_at cells None = no_cell
cell_at cells (Some sort) = slice_index_or cells sort no_cell

-- the first of two uses, and the second where that is of the new table
abbrev pub first_unless_new : Used → Used → Used
first_unless_new used.Nothing other = used.Nothing
first_unless_new used.Connected other = used.Connected
first_unless_new (used.Old number) other = used.Old number
first_unless_new (used.New number) other = other

-- what is used in Old: what is used in Middle, unless that is of the new table
abbrev pub old_use : Cell → Used
old_use cell = first_unless_new cell.middle cell.other

-- the first of two uses where that is of the new table, else the second
abbrev pub first_if_new : Used → Used → Used
first_if_new used.Nothing other = other
first_if_new used.Connected other = other
first_if_new (used.Old number) other = other
first_if_new (used.New number) other = used.New number

-- what is used in New: what is used in Middle where that is of the new table, else what is used at the other end
abbrev pub new_use : Cell → Used
new_use cell = first_if_new cell.middle cell.other

-- what is used in a phase
abbrev pub use_in : Cell → Phase → Used
use_in cell phase.Old = old_use cell
use_in cell phase.Middle = cell.middle
use_in cell phase.New = new_use cell

-- what is used is within the entries that the tables keep
abbrev pub IsKeptUse : List Entry → List Entry → Used → Type 0
IsKeptUse olds news used.Nothing = Unit {0}
IsKeptUse olds news used.Connected = Unit {0}
IsKeptUse olds news (used.Old number) = number < length olds
IsKeptUse olds news (used.New number) = number < length news

-- what is used is this
abbrev pub IsUsable : List Entry → List Entry → Used → Usable → Type 0
IsUsable olds news used.Nothing x = ⊥
IsUsable olds news used.Connected x = x ≡ connected
IsUsable olds news (used.Old number) x = (e : Entry) × (slice_get olds number ≡ Some e) × (x ≡ of_old e)
IsUsable olds news (used.New number) x = (e : Entry) × (slice_get news number ≡ Some e) × (x ≡ of_new e)

-- what is used in a phase is this alone
pub record IsUse (s : Site) (phase : Phase) (way : Used) : Type 0 where
  pub within : IsKeptUse s.tables.old.entries.now s.tables.new.entries.now way
  pub exact : (x : Usable) → UsesAt s phase x ↔ IsUsable s.tables.old.entries.now s.tables.new.entries.now way x

-- what is used in each phase
abbrev pub IsCell : Site → Cell → Type 0
IsCell s cell = (phase : Phase) → IsUse s phase (use_in cell phase)
