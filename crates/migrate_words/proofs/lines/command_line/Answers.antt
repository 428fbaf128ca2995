use Rattle.std.proofs.Common.{arith}
use Rattle.std.proofs.lemmas.Grind.{common_steps}
use Rattle.std.proofs.Common.{sym, subst}
use Rattle.std.proofs.lemmas.List.Sums.{fold_more}
use Rattle.clap.specs.Words.{App}
use Rattle.migrate_words.specs.steps.LineSteps.{IsWhole, bare_line}
use Rattle.migrate_words.proofs.Entries.{of_table, with_entry, whole_of_entries}
use Rattle.migrate_words.proofs.lines.command_line.Goals as goal

pub loop-entry-init : goal.loop-entry-init
loop-entry-init c = c.top-line.ensures

pub loop-entry-preserved : goal.loop-entry-preserved
loop-entry-preserved c =
    subst (λ (whole : App). IsWhole whole c.in_ok-line.line)
    (sym (fold_more with_entry bare_line c.subcommands-entry-items.result.now c.loop-entry.entry-index _ c.loop-entry-test.true))
    (c.in_ok-line.ensures _ _ c.loop-entry.invariant c.in_ok-subcommand.ensures)

pub returns : goal.returns
returns c = grind (arith, common_steps, of_table, whole_of_entries)
