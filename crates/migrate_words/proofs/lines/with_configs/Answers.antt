use Rattle.std.proofs.Common.{List, map, subst}
use Rattle.std.proofs.lemmas.Result.{IfOk-weaker}
use Rattle.clap.specs.Words.{Text}
use Rattle.migrate_words.specs.CommandLine.{config_files, one_text}
use Rattle.migrate_words.specs.steps.LineSteps.{IsLine, with_arguments}
use Rattle.migrate_words.proofs.lines.with_configs.Goals as goal

pub returns-in-Several : goal.returns-in-Several
returns-in-Several c = rw c.in-Several.is
    (IfOk-weaker c.with_argument.result _ _ (λ r more shape line. more shape config_files line c.config_files.ensures)
    c.with_argument.ensures)

pub returns-in-Networks : goal.returns-in-Networks
returns-in-Networks c = rw c.in-Networks.is
    (IfOk-weaker c.with_files.result _ _ (λ r more shape line.
    subst (λ (names : List Text). IsLine (with_arguments shape (map one_text names)) r) c.networks.ensures (more shape line))
    c.with_files.ensures)
