use Rattle.std.proofs.Common.{arith}
use Rattle.std.proofs.lemmas.Grind.{common_steps}
use Rattle.std.proofs.Common.{subst}
use Rattle.std.proofs.lemmas.Result.{IfOk-weaker}
use Rattle.net_model.specs.Network.{Network}
use Rattle.igp_theory.specs.Migrations.{ospf_to_isis}
use Rattle.failed_links.proofs.DownFacts.{KeepsRouters-all}
use Rattle.migrate_cli.specs.FailuresDecision.{IsLinkVerdict, IsVerdictOver}
use Rattle.migrate_cli.specs.FailuresDecision.IsLinkVerdict.{judged}
use Rattle.migrate_cli.specs.steps.Tables.{NetworkMove, move_of}
use Rattle.migrate_cli.proofs.FailureFacts.{told_refused}
use Rattle.migrate_cli.proofs.failures.link_verdict.Goals as goal

pub verdict_over-requires : goal.verdict_over-requires
verdict_over-requires c = grind (arith, common_steps, KeepsRouters-all)

pub returns-in-Ok : goal.returns-in-Ok
returns-in-Ok c =
    let read = c.args.read.now in
    IfOk-weaker c.verdict_over.result (IsVerdictOver (move_of c.to_isis.result) read.waves read.version)
    (IsLinkVerdict c.args.net.now read.version read.waves c.args.link)
    (λ verdict is. judged verdict c.in-Ok.ensures.stands
    (subst (λ (net : Network). IsVerdictOver (ospf_to_isis net) read.waves read.version verdict) c.in-Ok.ensures.ok
    (subst (λ (of : NetworkMove). IsVerdictOver (move_of of) read.waves read.version verdict) c.to_isis.ensures is))) c.verdict_over.ensures

pub returns-in-Err : goal.returns-in-Err
returns-in-Err c = grind (arith, common_steps, told_refused)
