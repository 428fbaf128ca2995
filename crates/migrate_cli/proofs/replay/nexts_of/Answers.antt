use Rattle.std.proofs.Common.{◌+◌, sym, subst}
use Rattle.migrate_cli.specs.ReplayDecision.{AreNext}
use Rattle.migrate_cli.proofs.NextFacts.{next_more}
use Rattle.migrate_cli.proofs.replay.nexts_of.Goals as goal

pub loop-router-preserved : goal.loop-router-preserved
loop-router-preserved c =
    let l = c.loop-router in
    subst (AreNext c.args.ranks.now c.args.done.now (l.router + 1)) (sym c.in_ok-push.ensures.items)
    (next_more c.args.ranks.now c.args.done.now l.router l.nexts.items c.next_change.result l.invariant c.next_change.ensures)
