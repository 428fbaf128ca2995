use Rattle.std.proofs.Common.{◌∙◌, List, ap, subst, sym}
use Rattle.std.proofs.lemmas.Result.{err_from_is_err_and}
use Rattle.clap.specs.Words.{Text, found_of, rows_of}
use Rattle.migrate_words.specs.Asked.{HaveTexts}
use Rattle.migrate_words.specs.Usages.{Usage, usage_of}
use Rattle.migrate_words.specs.steps.Reading.{IsOfKind}
use Rattle.migrate_words.specs.steps.Seen.{argument_names}
use Rattle.migrate_words.specs.declared.command.Command.{Command}
use Rattle.migrate_words.specs.declared.command.CommandKind.{CommandKind}
use Rattle.migrate_words.proofs.ReadingFacts.{refused_whole}
use Rattle.migrate_words.proofs.reading.command_of.Goals as goal

pub returns-in_err-own : goal.returns-in_err-own
returns-in_err-own c =
    let rows = rows_of (found_of c.args.given.now) in
    let entry = c.args.entry.now in
    let p = err_from_is_err_and c.from_residual-in_err-own.result c.from_residual-in_err-own.ensures.1 in
    let own = ap (λ (usage : Usage). usage.own) c.requires in
    rw (p.1, p.2)
    (refused_whole (λ (names : List Text). names) (λ (command : Command). command) (HaveTexts rows (argument_names entry.own.now))
    (IsOfKind entry.kind rows) c.in_err-own.field-0.0
    (λ command is. (
      command.own,
      subst (λ (names : List Text). HaveTexts rows names command.own)
          (ap (λ (kind : CommandKind). (usage_of kind).own) is.0 ∙ sym own) is.1.own,
    )) c.in_err-own.ensures)
