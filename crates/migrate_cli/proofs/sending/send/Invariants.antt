use Rattle.std.proofs.Common.{◌≡◌, ◌-◌, ◌≤◌, length, take}
use Rattle.store_edge.specs.Sink.{AddsBytes}
use Rattle.migrate_cli.proofs.sending.send.Given as goal

-- the front of the text is written
abbrev pub invariant-loop-done : goal.invariant-loop-done
invariant-loop-done g l = record {
  within : l.done ≤ length l.text;
  added : AddsBytes (g.S.Sink.written l.fn.out) (g.S.Sink.written l.out) (take l.done l.text);
  faults_stand : g.S.Sink.faults l.out ≡ g.S.Sink.faults l.fn.out;
}

abbrev pub decreases-loop-done : goal.decreases-loop-done
decreases-loop-done g l = length l.text - l.done
