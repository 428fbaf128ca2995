-- Words ask for one command.
use Rattle.std.proofs.Common.{arith}
use Rattle.std.proofs.lemmas.Grind.{common_steps}
use Rattle.std.proofs.Common.{◌≡◌, ◌∙◌, ℕ, List, [], ◌∷◌, Option, refl, sym, ap₂}
use Rattle.clap.specs.Words.{Row, Text, first_of}
use Rattle.net_model.specs.declared.config.Levels.{Levels}
use Rattle.migrate_words.specs.Asked.{AreGivenLevels, Gives, HasConfigs, HaveTexts, IsGivenArea, IsGivenNumber, IsGivenScheme, IsNumberIn}
use Rattle.migrate_words.specs.Laws.{OneCommandLaw}
use Rattle.migrate_words.specs.Schemes.{AskedScheme}
use Rattle.migrate_words.specs.declared.command.Command.{Command}
use Rattle.migrate_words.specs.declared.command.CommandKind.{CommandKind}
use Rattle.migrate_words.specs.declared.subcommands.ConfigFiles.{ConfigFiles}
use Rattle.migrate_words.specs.declared.subcommands.NumberTaken.{NumberTaken}
use Rattle.migrate_words.proofs.Entries.{same_kind}
use Rattle.migrate_words.proofs.RowFacts.{one_value, some_is}

one_in_range : (least most : ℕ) (word : Text) (n m : ℕ) → IsNumberIn least most word n → IsNumberIn least most word m → n ≡ m
one_in_range least most word n m one two = sym one.numeral.numeral.value ∙ two.numeral.numeral.value

one_number : (number : NumberTaken) (word : Option Text) (n m : ℕ) → IsGivenNumber number word n → IsGivenNumber number word m
    → n ≡ m
one_number number word n m one two = grind (arith, common_steps, one_in_range)

one_area : (word : Option Text) (area other : Text) → IsGivenArea word area → IsGivenArea word other → area ≡ other
one_area word area other one two = grind (arith, common_steps)

same_levels : (word : Option Text) (levels others : Levels) → AreGivenLevels word levels → AreGivenLevels word others → levels ≡ others
same_levels word levels others one two = grind (arith, common_steps, some_is)

one_scheme : (number : NumberTaken) (rows : List Row) (scheme other : AskedScheme) → IsGivenScheme number rows scheme
    → IsGivenScheme number rows other → scheme ≡ other
one_scheme number rows scheme other one two = grind (arith, common_steps, one_area, same_levels)

same_texts : (rows : List Row) (ids texts others : List Text) → HaveTexts rows ids texts → HaveTexts rows ids others
    → texts ≡ others
same_texts rows [] [] [] one two = refl
same_texts rows [] (text ∷ texts) others one two = absurd one
same_texts rows [] [] (other ∷ others) one two = absurd two
same_texts rows (id ∷ ids) [] others one two = absurd one
same_texts rows (id ∷ ids) (text ∷ texts) [] one two = absurd two
same_texts rows (id ∷ ids) (text ∷ texts) (other ∷ others) one two =
    ap₂ (λ t ts. t ∷ ts) (one_value (first_of id rows) text other one.0 two.0) (same_texts rows ids texts others one.1 two.1)

same_configs : (configs : ConfigFiles) (rows : List Row) (names others : List Text) → HasConfigs configs rows names
    → HasConfigs configs rows others → names ≡ others
same_configs configs rows names others one two = grind (arith, common_steps, one_value, same_texts)

-- a command of a kind with the files, the number and the scheme of another one
abbrev of_kind : CommandKind → Command → Command
of_kind kind command = record command { kind = kind }

one_given : (kind : CommandKind) (rows : List Row) (command other : Command) → Gives rows (of_kind kind command)
    → Gives rows (of_kind kind other) → of_kind kind command ≡ of_kind kind other
one_given kind rows command other one two = grind (arith, common_steps, one_number, one_scheme, same_configs, same_texts)

pub one_command : OneCommandLaw
one_command words command other one two = grind (arith, common_steps, one_given, same_kind, some_is)
