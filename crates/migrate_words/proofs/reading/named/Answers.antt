use Rattle.std.proofs.Common.{sym}
use Rattle.clap.specs.Words.{found_of, rows_of}
use Rattle.migrate_words.specs.steps.Reading.{IsOfKind, NamesCommand}
use Rattle.migrate_words.proofs.ReadingFacts.{kind_of_name, name_of_kind, same_reading}
use Rattle.migrate_words.proofs.reading.named.Goals as goal

pub returns-in-Some : goal.returns-in-Some
returns-in-Some c =
    let rows = rows_of (found_of c.args.given.now) in
    let kind = c.in-Some.entry.now.kind in
    same_reading (IsOfKind kind rows) (NamesCommand c.args.name.now rows)
    (kind_of_name c.args.name.now kind rows (sym c.in-Some.ensures.kind))
    (name_of_kind c.args.name.now kind rows (sym c.in-Some.ensures.kind)) c.command_of.result c.command_of.ensures
