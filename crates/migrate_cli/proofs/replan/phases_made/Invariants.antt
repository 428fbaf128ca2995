use Rattle.std.proofs.Common.{◌≡◌, take}
use Rattle.migrate_cli.specs.ReplanDecision.{phases_made}
use Rattle.migrate_cli.proofs.replan.phases_made.Given as goal

abbrev pub invariant-loop-made : goal.invariant-loop-made
invariant-loop-made l = l.start.items ≡ phases_made (take l.made-index l.done)
