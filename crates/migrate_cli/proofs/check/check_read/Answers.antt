use Rattle.std.proofs.Common.{◌∙◌, IfOk, ap, length, subst, sym}
use Rattle.step_scripts.specs.WaveFiles.{NamesWaves}
use Rattle.migrate_cli.specs.CheckDecision.{IsCheckOver}
use Rattle.migrate_cli.specs.steps.Tables.{NetworkMove, move_of}
use Rattle.migrate_cli.proofs.check.check_read.Goals as goal

pub judge_file-decision-requires : goal.judge_file-decision-requires
judge_file-decision-requires c = c.requires ∙ ap (λ (m : NetworkMove). length m.net) (sym c.in_ok-tables.ensures)

pub returns : goal.returns
returns c = λ order names.
    subst (λ (some : NetworkMove). IfOk c.judge_file-decision.result (IsCheckOver (move_of some) order)) c.in_ok-tables.ensures
    (c.judge_file-decision.ensures order (subst (λ (some : NetworkMove). NamesWaves some.net order.text c.args.read.now.version c.args.read.now.waves)
    (sym c.in_ok-tables.ensures) names))
