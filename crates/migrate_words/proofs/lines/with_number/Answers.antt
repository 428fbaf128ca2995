use Rattle.std.proofs.lemmas.Result.{IfOk-weaker}
use Rattle.std.proofs.Common.{codes}
use Rattle.migrate_words.specs.CommandLine.{budget_option, one_text}
use Rattle.migrate_words.proofs.lines.with_number.Goals as goal

pub returns-in-Budget : goal.returns-in-Budget
returns-in-Budget c = rw c.in-Budget.is
    (IfOk-weaker c.with_argument.result _ _ (λ r more shape line. more shape budget_option line c.budget_option.ensures)
    c.with_argument.ensures)

pub returns-in-Routers : goal.returns-in-Routers
returns-in-Routers c = rw c.in-Routers.is (IfOk-weaker c.with_argument-in-Routers.result _ _
    (λ r more shape line. more shape (one_text (codes "N")) line c.one_text-routers.ensures) c.with_argument-in-Routers.ensures)

pub returns-in-WaveSize : goal.returns-in-WaveSize
returns-in-WaveSize c = rw c.in-WaveSize.is (IfOk-weaker c.with_argument-in-WaveSize.result _ _
    (λ r more shape line. more shape (one_text (codes "N")) line c.one_text-size.ensures) c.with_argument-in-WaveSize.ensures)

pub returns-in-DesignOptions : goal.returns-in-DesignOptions
returns-in-DesignOptions c = rw c.in-DesignOptions.is c.with_design_options.ensures
