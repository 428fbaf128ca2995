use Rattle.store_edge.proofs.TransferLaws.{more_taken, more_within, front_taken, OnErr-from}
use Rattle.store_edge.proofs.transfer.write_whole.Goals as goal

pub returns-in_err-done-clause-cut : goal.returns-in_err-done-clause-cut
returns-in_err-done-clause-cut g c =
    OnErr-from c.from_residual.result
    (front_taken _ (g.W.Write.contents c.loop-done.writer) _ c.args.piece.now c.loop-done.done c.loop-done.invariant.taken c.in_err-done.ensures.failed)

pub loop-done-preserved : goal.loop-done-preserved
loop-done-preserved g c = record {
  within = more_within c.args.piece.now c.loop-done.done c.in_ok-done.field-0 c.loop-done.invariant.within c.in_ok-done.ensures.within;
  taken = more_taken _ (g.W.Write.contents c.loop-done.writer) _ c.args.piece.now c.loop-done.done c.in_ok-done.field-0 c.loop-done.invariant.taken
      c.in_ok-done.ensures.taken;
}
