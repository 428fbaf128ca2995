-- Lists of what a relation holds of.
use Rattle.std.specs.Prelude.{◌↔◌, ◌⊎◌, List, Contains}

-- the list has the elements that are wanted, and no others
abbrev pub Exactly : {X : Type 0} → (X → Type 0) → List X → Type 0
Exactly {X} wanted all = (x : X) → Contains all x ↔ wanted x

-- to a list there come the elements that are wanted, and no others
abbrev pub Adds : {X : Type 0} → List X → List X → (X → Type 0) → Type 0
Adds {X} old new wanted = (x : X) → Contains new x ↔ (Contains old x ⊎ wanted x)
