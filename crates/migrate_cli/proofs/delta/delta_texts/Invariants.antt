use Rattle.std.proofs.Common.{◌≡◌, take}
use Rattle.migrate_cli.specs.DeltaDecision.{delta_texts}
use Rattle.migrate_cli.proofs.delta.delta_texts.Given as goal

-- the new lines of the first texts
abbrev pub invariant-loop-text : goal.invariant-loop-text
invariant-loop-text l = l.all.items ≡ delta_texts l.net l.settled (take l.text-index l.texts)
