use Rattle.migrate_cli.specs.ReplayDecision.{AreNext}
use Rattle.migrate_cli.proofs.replay.nexts_of.Given as goal

abbrev pub invariant-loop-router : goal.invariant-loop-router
invariant-loop-router l = AreNext l.ranks l.done l.router l.nexts.items
