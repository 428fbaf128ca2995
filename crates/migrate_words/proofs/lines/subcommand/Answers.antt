use Rattle.std.proofs.lemmas.Result.{IfOk-weaker}
use Rattle.migrate_words.proofs.lines.subcommand.Goals as goal

pub returns : goal.returns
returns c = IfOk-weaker c.with_configs.result _ _
    (λ r more. more _ (c.in_ok-with_files.ensures _ (c.in_ok-line.ensures _ c.bare.ensures))) c.with_configs.ensures
