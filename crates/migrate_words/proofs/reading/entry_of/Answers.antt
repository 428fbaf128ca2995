use Rattle.std.proofs.Common.{arith}
use Rattle.std.proofs.lemmas.Grind.{common_steps}
use Rattle.std.proofs.Common.{◌∙◌, List, ap}
use Rattle.std.specs.List.{find}
use Rattle.std.specs.Option.{option_map}
use Rattle.std.specs.Str.{bytes_eq}
use Rattle.migrate_words.specs.Usages.{usage_of}
use Rattle.migrate_words.specs.steps.Seen.{kind_of_entry}
use Rattle.migrate_words.specs.declared.command.CommandKind.{CommandKind}
use Rattle.migrate_words.proofs.Entries.{find_entry, find_holds, of_table}
use Rattle.migrate_words.proofs.reading.entry_of.Goals as goal

pub returns-clause-kind : goal.returns-clause-kind
returns-clause-kind c =
    let table = c.subcommands in
    ap (option_map kind_of_entry) c.first_of.ensures ∙ find_entry table.result.now c.args.word.now (of_table table.result.now table.ensures.usages)
    ∙ ap (λ (some : List CommandKind). find (λ kind. bytes_eq (usage_of kind).word c.args.word.now) some) table.ensures.kinds

pub returns-clause-usage : goal.returns-clause-usage
returns-clause-usage c = grind (arith, common_steps, find_holds, of_table)
