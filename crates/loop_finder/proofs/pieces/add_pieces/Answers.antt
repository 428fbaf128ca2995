use Rattle.loop_finder.proofs.pieces.add_pieces.Goals as goal

pub loop-router-preserved : goal.loop-router-preserved
loop-router-preserved c = record {
  all = c.in_ok-add_piece.ensures.all;
  kept = λ other others made. c.in_ok-add_piece.ensures.kept other others (c.loop-router.invariant.kept other others made);
}

pub loop-router-init : goal.loop-router-init
loop-router-init c = record { all = c.requires.all; kept = λ other others made. made }
