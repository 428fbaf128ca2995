-- What a finder searches.
use Rattle.std.specs.Prelude.{ℕ, true, List, [], length, slice_index_or}
use Rattle.loop_finder.specs.Mixes.{Mix}
use Rattle.loop_finder.specs.Parts.{ClassPart, AreParts}
use Rattle.loop_finder.specs.Pieces.{ArePieces}
use Rattle.loop_finder.specs.Watches.{IsWatch}
use Rattle.loop_finder.specs.declared.pieces.Pieces.{Pieces}

-- the part at a place, and what stands for it past the list
abbrev pub no_part : ClassPart
no_part = record { atom = 0; moves = true; rows = [] }

abbrev pub class_part_at : List ClassPart → ℕ → ClassPart
class_part_at parts p = slice_index_or parts p no_part

-- the parts of all classes of what is mixed, with their pieces, and for each router those parts that a change of it concerns
pub record IsSubject (m : Mix) (parts : List ClassPart) (pieces : Pieces) (watch : List (List ℕ)) : Type 0 where
  pub parts_are : AreParts m parts (length m.classes.samples)
  pub pieces_are : ArePieces parts (length m.net) pieces
  pub watch_is : IsWatch parts (length m.net) watch
