-- What a router uses for the addresses of a prefix, by what it has for the prefix and what it uses for its parent.
use Rattle.std.specs.Prelude.{ℕ, Bool, if◌then◌else◌, List, Option, Some, None, ◌≡◌, slice_get}
use Rattle.rib_mix.specs.Cells.{new_use, old_use}
use Rattle.rib_mix.specs.declared.cell.Cell.{Cell}
use Rattle.rib_mix.specs.declared.used.Used.{Used}
use Rattle.rib_mix.specs.declared.used.Used.TheVariants.{Connected, New, Nothing, Old}
use Rattle.route_core.specs.declared.entry.Entry.{Entry}
use Rattle.rib_mix.specs.Answers.{ShowsEntry}
use Rattle.rib_mix.specs.declared.next.Next.{Next}
use Rattle.rib_mix.specs.declared.next.Next.TheVariants as next

-- what a router has for a prefix: whether it is connected, and the number of the entry of each table, where that table counts
pub record Has : Type 0 where
  pub connected : Bool
  pub old : Option ℕ
  pub new : Option ℕ

-- the answer is what is used
abbrev pub ShowsUse : List Entry → List Entry → Used → Next → Type 0
ShowsUse olds news Nothing answer = answer ≡ next.Absent
ShowsUse olds news Connected answer = answer ≡ next.Connected
ShowsUse olds news (Old number) answer = (e : Entry) → slice_get olds number ≡ Some e → ShowsEntry answer e
ShowsUse olds news (New number) answer = (e : Entry) → slice_get news number ≡ Some e → ShowsEntry answer e

-- an entry of the new table is used
abbrev pub IsOfNew : Used → Type 0
IsOfNew Nothing = ⊥
IsOfNew Connected = ⊥
IsOfNew (Old n) = ⊥
IsOfNew (New n) = Unit {0}

-- what is used that is of the old table, and what is used that is of the new one: that of the lower distance comes first
abbrev pub cell_between : Used → Used → Bool → Cell
cell_between old new old_first = if old_first then record { middle = old; other = new } else record { middle = new; other = old }

-- what is used where there may be an entry of the old table, and one of the new one: at an end without one, what is used
-- for the parent
abbrev pub cell_of_two : Option ℕ → Option ℕ → Bool → Cell → Cell
cell_of_two None None old_first up = up
cell_of_two (Some n) None old_first up = record { middle = Old n; other = new_use up }
cell_of_two None (Some n) old_first up = record { middle = New n; other = old_use up }
cell_of_two (Some n) (Some m) old_first up = cell_between (Old n) (New m) old_first

-- a connected prefix is used
abbrev pub connected_cell : Cell
connected_cell = record { middle = Connected; other = Connected }

-- what is used of what a router has for a prefix: a connected prefix before all entries
abbrev pub cell_over : Has → Bool → Cell → Cell
cell_over has old_first up =
    if has.connected then connected_cell else cell_of_two has.old has.new old_first up
