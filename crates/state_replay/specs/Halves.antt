-- The two changes that a migration makes on a router, and how a journal writes them.
use Rattle.std.specs.Prelude.{ℕ, List, codes}
use Rattle.igp_theory.specs.Changes.{Change, first, second}
use Rattle.state_replay.specs.declared.half.Half.{Half}
use Rattle.state_replay.specs.declared.half.Half.TheVariants.{First, Second}

-- the number of a change among those of its router
abbrev pub half_number : Half → ℕ
half_number First = 1
half_number Second = 2

-- the change of a router
abbrev pub change_of : ℕ → Half → Change
change_of u First = first u
change_of u Second = second u

-- what stands behind the name of the router: a blank, and the number of the change
abbrev pub ending_of : Half → List ℕ
ending_of First = codes " 1"
ending_of Second = codes " 2"
