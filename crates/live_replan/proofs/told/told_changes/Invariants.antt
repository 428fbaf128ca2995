use Rattle.std.proofs.Common.{◌<◌, All, length}
use Rattle.live_replan.specs.declared.told.Told.{Told}
use Rattle.live_replan.specs.steps.ToldChanges.{ToldSoFar}
use Rattle.live_replan.proofs.told.told_changes.Given as goal

abbrev pub invariant-loop-line : goal.invariant-loop-line
invariant-loop-line l = record {
  told : ToldSoFar l.net l.journal l.lines l.told.items;
  below : All (λ (t : Told). t.router < length l.net) l.told.items;
}

abbrev pub decreases-loop-line : goal.decreases-loop-line
decreases-loop-line l = length l.lines
