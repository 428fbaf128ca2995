-- When a state is sound, over what is mixed.
use Rattle.std.specs.Prelude.{ℕ, length}
use Rattle.igp_theory.specs.Migrations.{migration}
use Rattle.igp_theory.specs.Phases.{State}
use Rattle.igp_theory.specs.States.{IsSoundAt, IsSound}
use Rattle.prefix_atoms.specs.Classes.{AreClasses, SourceEntry}
use Rattle.loop_finder.specs.Mixes.{Mix, migration_in}

-- the classes of what is mixed
abbrev pub ClassesOf : Mix → Type 0
ClassesOf m = AreClasses (migration m.net (SourceEntry (length m.net) m.old) (SourceEntry (length m.net) m.new)) m.classes

-- a state is sound for an address
abbrev pub SoundAt : Mix → State → ℕ → Type 0
SoundAt m state a = IsSoundAt (migration_in m) state a

-- it is so for all addresses
abbrev pub Sound : Mix → State → Type 0
Sound m state = IsSound (migration_in m) state
