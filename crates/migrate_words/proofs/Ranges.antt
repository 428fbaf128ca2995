-- What words ask for is within the ranges of the command line.
use Rattle.std.proofs.lemmas.Grind.{common_steps}
use Rattle.std.proofs.Common.{◌≡◌, ℕ, ◌<◌, ◌∙◌, true, List, [], ◌∷◌, Option, Some, None, length, refl, sym, ap}
use Rattle.std.proofs.Common.{subst, arith, true≢false, codes}
use Rattle.std.proofs.lemmas.List.Elements.{length_all_zip}
use Rattle.std.specs.List.{find}
use Rattle.std.specs.Option.{is_some, option_map}
use Rattle.clap.specs.Words.{Row, Text, all_of, first_of}
use Rattle.clap.specs.Walk.{rows_after}
use Rattle.design_file.specs.Values.{is_area}
use Rattle.migrate_words.specs.Asked.{AreConfigsInRange, HasConfigs, HasText, IsGivenArea, IsGivenNumber, IsGivenScheme, IsNumberInRange}
use Rattle.migrate_words.specs.Laws.{RangesLaw}
use Rattle.migrate_words.specs.Schemes.{AskedScheme}
use Rattle.migrate_words.specs.Usages.{usage_of}
use Rattle.migrate_words.specs.declared.subcommands.ConfigFiles.{ConfigFiles}
use Rattle.migrate_words.specs.declared.subcommands.NumberTaken.{NumberTaken}
use Rattle.migrate_words.proofs.FullRows.{Full, HasSome}
use Rattle.migrate_words.proofs.BuiltLines.{built_of, enters_line}
use Rattle.migrate_words.proofs.RowFacts.{some_is}
use Rattle.migrate_words.proofs.TakenLaws.{found_full, line_full, row_named}

-- of rows that have a value each argument has one
some_values : (id : Text) (rows : List Row) (values : List Text) → Full rows → all_of id rows ≡ Some values → 0 < length values
some_values id rows values full all = go (find (row_named id) rows) refl all
  where
    one_or_more : (some : List Text) → HasSome some → 0 < length some
    one_or_more [] none = absurd none
    one_or_more (text ∷ rest) has = omega arith

    go : (found : Option Row) → find (row_named id) rows ≡ found → option_map (λ r. r.values) found ≡ Some values
        → 0 < length values
    go None found e = absurd (true≢false (sym (ap is_some e)))
    go (Some r) found e =
        one_or_more values
        (subst (λ (some : List Text). HasSome some) (some_is r.values values e) (found_full (row_named id) rows r full found))

number_in_range : (number : NumberTaken) (word : Option Text) (n : ℕ) → IsGivenNumber number word n → IsNumberInRange number n
number_in_range number word n is = grind (arith, common_steps)

given_area : (word : Option Text) (area : Text) → IsGivenArea word area → is_area area ≡ true
given_area word area is = grind (arith, common_steps)

area_in_range : (number : NumberTaken) (rows : List Row) (scheme : AskedScheme) → IsGivenScheme number rows scheme → is_area scheme.area ≡ true
area_in_range number rows scheme is = grind (arith, common_steps, given_area)

configs_in_range : (configs : ConfigFiles) (rows : List Row) (names : List Text) → Full rows → HasConfigs configs rows names
    → AreConfigsInRange configs names
configs_in_range configs rows names full has = grind (arith, common_steps, length_all_zip, some_values)

pub ranges : RangesLaw
ranges words command asks =
    let line = enters_line words asks.taken in
    let rows : List Row = rows_after (built_of line.kind).rules [] line.rest in
    let same = some_is ((usage_of line.kind).word, rows) ((usage_of command.kind).word, asks.rows)
    (sym line.entered ∙ asks.entered) in
    let full = subst (λ (found : List Row). Full found) (ap (λ (p : Text × List Row). p.1) same)
    (line_full (usage_of line.kind) line.rest line.takes) in
    record {
      number = number_in_range (usage_of command.kind).number (first_of (codes "N") asks.rows) command.number asks.given.number;
      area = area_in_range (usage_of command.kind).number asks.rows command.scheme asks.given.scheme;
      own = sym (length_all_zip (HasText asks.rows) (usage_of command.kind).own command.own asks.given.own);
      configs = configs_in_range (usage_of command.kind).configs asks.rows command.configs full asks.given.configs;
    }
