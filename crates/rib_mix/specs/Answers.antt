-- What a router does with the packets of an address, as an answer.
use Rattle.std.specs.Prelude.{◌≡◌, ℕ, ◌<◌, ◌⊎◌, ◌↔◌, ◌++◌, List, All, Contains, length, slice_index, Option, Some, None}
use Rattle.std.specs.List.Sorted.{IsStrictlyIncreasing}
use Rattle.net_addr.specs.Addresses.{Block}
use Rattle.net_model.specs.Network.{Connected as ConnectedAt}
use Rattle.route_core.specs.declared.entry.Entry.{Entry}
use Rattle.route_core.specs.declared.entry.Entry.TheVariants as entry
use Rattle.igp_theory.specs.Forwarding.{IsTarget, Usable, connected, of_old, of_new, Uses}
use Rattle.igp_theory.specs.Migrations.{Migration}
use Rattle.igp_theory.specs.declared.phase.Phase.{Phase}
use Rattle.igp_theory.specs.declared.phase.Phase.TheVariants.{Old, New}
use Rattle.prefix_atoms.specs.Classes.{Classes, IsInClass}
use Rattle.rib_mix.specs.declared.next.Next.{Next}
use Rattle.rib_mix.specs.declared.next.Next.TheVariants.{Via, Discard, Connected, Absent}

-- the answer is what this entry says: its hops, or a discard
abbrev pub ShowsEntry : Next → Entry → Type 0
ShowsEntry (Via hops) e = e ≡ entry.Via hops.now
ShowsEntry Discard e = e ≡ entry.Discard
ShowsEntry Connected e = ⊥
ShowsEntry Absent e = ⊥

-- the answer is what the used entry says
abbrev pub Says : Next → Usable → Type 0
Says next connected = next ≡ Connected
Says next (of_old e) = ShowsEntry next e
Says next (of_new e) = ShowsEntry next e

-- what router u does in a phase with the packets of an address: what its one used entry says, where it
-- has one, and otherwise nothing
pub record IsNext (move : Migration) (u : ℕ) (phase : Phase) (a : ℕ) (next : Next) : Type 0 where
  pub there : (next ≡ Absent) ⊎ ((used : Usable) × Uses move u phase a used × Says next used)
  pub only : (used : Usable) → Uses move u phase a used → Says next used

-- what it does with the packets of each address of a class
abbrev pub IsNextOf : Migration → Classes → ℕ → ℕ → Phase → Next → Type 0
IsNextOf move classes u class phase next = (a : ℕ) → IsInClass classes class a → IsNext move u phase a next

-- it does so in Old, or it does so in New
abbrev pub IsNextAtAnEnd : Migration → Classes → ℕ → ℕ → Next → Type 0
IsNextAtAnEnd move classes u class next =
    IsNextOf move classes u class Old next ⊎ IsNextOf move classes u class New next

-- the answer forwards to h
abbrev pub NextLeadsTo : Next → ℕ → Type 0
NextLeadsTo (Via hops) h = Contains hops.now h
NextLeadsTo Discard h = ⊥
NextLeadsTo Connected h = ⊥
NextLeadsTo Absent h = ⊥

-- router u does the same with the packets of two classes, in each phase
abbrev pub IsAlikeAt : Migration → Classes → ℕ → ℕ → ℕ → Type 0
IsAlikeAt move classes u class other =
    (phase : Phase) (next : Next) → IsNextOf move classes u class phase next ↔ IsNextOf move classes u other phase next

-- another class is known, and router u does the same with the packets of both, in each phase
abbrev pub IsAlikeToKnown : Migration → Classes → Option ℕ → ℕ → ℕ → Type 0
IsAlikeToKnown move classes None class u = ⊥
IsAlikeToKnown move classes (Some other) class u = IsAlikeAt move classes u other class

-- some of the first n routers are added at the end, ascending: all for which something doesn't hold, and maybe others
pub record AddsAllBut (Is : ℕ → Type 0) (n : ℕ) (old new : List ℕ) : Type 0 where
  pub added : List ℕ
  pub new_is : new ≡ old ++ added
  pub ascending : IsStrictlyIncreasing added
  pub below : All (λ u. u < n) added
  pub whole : (u : ℕ) → u < n → Contains added u ⊎ Is u

-- every router does the same with the packets of two classes, in each phase, and their targets are connected at the same routers
pub record AreAlike (move : Migration) (classes : Classes) (class other : ℕ) : Type 0 where
  pub one : Block
  pub another : Block
  pub one_is : IsTarget move.net (slice_index classes.samples class) one
  pub other_is : IsTarget move.net (slice_index classes.samples other) another
  pub homes : (u : ℕ) → ConnectedAt move.net u one ↔ ConnectedAt move.net u another
  pub each : (u : ℕ) → u < length move.net → IsAlikeAt move classes u class other
