use Rattle.std.proofs.Common.{◌≡◌}
use Rattle.net_model.specs.RouterNames.{names_of}
use Rattle.migration_report.specs.JournalTexts.{next_texts}
use Rattle.migration_report.proofs.journal.next_texts.Given as goal

abbrev pub invariant-loop-router : goal.invariant-loop-router
invariant-loop-router l = l.text ≡ next_texts (names_of l.net) l.nexts l.router
