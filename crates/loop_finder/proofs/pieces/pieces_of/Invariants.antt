use Rattle.std.proofs.Common.{◌≡◌, All, length}
use Rattle.loop_finder.specs.Parts.{ClassPart}
use Rattle.loop_finder.specs.Pieces.{AreMadeOf}
use Rattle.loop_finder.proofs.pieces.pieces_of.Given as goal

abbrev pub invariant-loop-place : goal.invariant-loop-place
invariant-loop-place l = record {
  all : All (λ (piece : ClassPart). length piece.rows ≡ l.routers) l.all.items;
  made : AreMadeOf l.all.items l.parts l.place l.made.items;
}
