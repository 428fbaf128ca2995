use Rattle.std.proofs.Common.{◌≡◌, ℕ, List, All, length}
use Rattle.loop_finder.specs.Parts.{ClassPart}
use Rattle.loop_finder.specs.Pieces.{IsMadeOf}
use Rattle.loop_finder.proofs.pieces.add_pieces.Given as goal

abbrev pub invariant-loop-router : goal.invariant-loop-router
invariant-loop-router l = record {
  all : All (λ (piece : ClassPart). length piece.rows ≡ l.routers) l.all.items;
  kept : (other : ClassPart) (others : List ℕ) → IsMadeOf l.fn.all.items other others → IsMadeOf l.all.items other others;
}
