use Rattle.migrate_cli.specs.TablesDecision.IsTablesDecision.{shown}
use Rattle.migrate_cli.proofs.TablesLaws.{text_of_routes}
use Rattle.migrate_cli.proofs.shown.judge_tables.Goals as goal

pub returns : goal.returns
returns c =
    shown c.in_ok-text.text (text_of_routes c.args.net.now c.in_ok-old.old c.in_ok-new.new c.in_ok-text.text c.in_ok-old.ensures c.in_ok-new.ensures
    c.in_ok-text.ensures)
