use Rattle.std.proofs.Common.{length}
use Rattle.state_replay.specs.Journals.{progress}
use Rattle.state_replay.proofs.Places.{IsTaken}
use Rattle.state_replay.proofs.journal.replay.Given as goal

abbrev pub invariant-loop-line : goal.invariant-loop-line
invariant-loop-line l = IsTaken (progress l.net l.ranks l.done) l.journal l.lines l.changes

abbrev pub decreases-loop-line : goal.decreases-loop-line
decreases-loop-line l = length l.lines
