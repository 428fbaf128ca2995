-- Words that the command line takes ask for a command, or a value of them is off.
use Rattle.std.proofs.Common.{arith}
use Rattle.std.proofs.lemmas.Grind.{common_steps}
use Rattle.std.proofs.Common.{◌≡◌, ◌⊎◌, ◌∙◌, inl, inr, ℕ, Bool, cond, true, false, List, [], ◌∷◌, ◌++◌, Option, Some, None, map, refl, sym, ap}
use Rattle.std.proofs.Common.{subst, true≢false, codes}
use Rattle.std.proofs.lemmas.Bool.{not-false}
use Rattle.std.proofs.lemmas.List.Folds.{list_any-append}
use Rattle.std.specs.List.{find, list_any}
use Rattle.std.specs.Option.{is_some, option_map_or}
use Rattle.std.specs.Prelude.{◌&&◌, ◌||◌, not, option_map, slice_get}
use Rattle.std.specs.Str.{bytes_eq}
use Rattle.clap.specs.Facts.{explicit_source}
use Rattle.clap.specs.Words.{Row, Rule, Shape, Text, first_of}
use Rattle.clap.specs.Walk.{nothing_held, rows_after, settled, walk, walk_from}
use Rattle.clap.specs.Simple.{filled_from, help_rule, index_after}
use Rattle.clap.specs.Takes.{is_given}
use Rattle.clap.specs.Faults.{defaults_fault, level_fault, settle_fault, walk_fault}
use Rattle.clap.specs.declared.error.kind.ErrorKind.{ErrorKind}
use Rattle.net_model.specs.declared.config.Levels.{Levels}
use Rattle.design_file.specs.Values.{is_area, levels_named}
use Rattle.migrate_words.specs.CommandLine.{config_rules, number_rules, one_text, rules_of}
use Rattle.migrate_words.specs.Asked.{AreGivenLevels, AreTaken, Asks, HasConfigs, HasValueOff, HasText, HaveTexts}
use Rattle.migrate_words.specs.Asked.{IsGivenArea, IsGivenNumber, IsGivenScheme, IsValueOff}
use Rattle.migrate_words.specs.Asked.IsValueOff.{area_off, level_off, number_off}
use Rattle.migrate_words.specs.Schemes.{AskedScheme, scheme_of, usual_scheme}
use Rattle.migrate_words.specs.Laws.{NumbersLaw}
use Rattle.migrate_words.specs.Usages.{Usage, network_names, usage_of}
use Rattle.migrate_words.specs.declared.command.Command.{Command}
use Rattle.migrate_words.specs.declared.subcommands.ConfigFiles.{ConfigFiles}
use Rattle.migrate_words.specs.declared.subcommands.ConfigFiles.TheVariants.{NoConfigs, Several, Networks}
use Rattle.migrate_words.specs.declared.subcommands.NumberTaken.{NumberTaken}
use Rattle.migrate_words.specs.declared.subcommands.NumberTaken.TheVariants.{NoNumber, Budget, Routers, DesignOptions, WaveSize}
use Rattle.migrate_words.proofs.Entries.{same_kind}
use Rattle.migrate_words.proofs.FullRows.{Full, HasSome, WantsValue, cons_not_nil, full_rows, second_none}
use Rattle.migrate_words.proofs.BuiltLines.{OfArguments, built_line, built_of, each_of_line, enters_line}
use Rattle.migrate_words.proofs.RowFacts.{some_is}

-- ---- what is required is there

or_left : (a b : Bool) → (a || b) ≡ false → a ≡ false
or_left a b e = grind (arith, common_steps)

or_right : (a b : Bool) → (a || b) ≡ false → b ≡ false
or_right a b e = grind (arith, common_steps)

cond_none : (b : Bool) (k : ErrorKind) → cond b (k ∷ []) [] ≡ [] → b ≡ false
cond_none b k e = grind (arith, common_steps, cons_not_nil)

-- the argument is required, and isn't given
abbrev pub lacks : List Row → Rule → Bool
lacks rows a = a.required && not (is_given a.id rows)

-- building changes neither
pub lacks_filled : (rows : List Row) (i : ℕ) (rules : List Rule)
    → list_any (lacks rows) (filled_from i rules) ≡ list_any (lacks rows) rules
lacks_filled rows i [] = refl
lacks_filled rows i (a ∷ rest) = ap (λ (later : Bool). lacks rows a || later) (lacks_filled rows (index_after i a) rest)

-- no required argument is missing where the subcommand takes the words: neither a number, nor a file, nor the configurations
record NoneLacks (rows : List Row) (usage : Usage) : Type 0 where
  number : list_any (lacks rows) (number_rules usage.number) ≡ false
  own : list_any (lacks rows) (map one_text usage.own) ≡ false
  configs : list_any (lacks rows) (config_rules usage.configs) ≡ false

none_lacks : (usage : Usage) (words : List Text) → level_fault (built_line usage) [] nothing_held words false [] ≡ []
    → NoneLacks (rows_after (built_line usage).rules [] words) usage
none_lacks usage words taken =
    let line : Shape = built_line usage in
    let rows = rows_after line.rules [] words in
    let end = (walk line.rules [] nothing_held words).held in
    let ends = second_none (walk_fault line [] (walk_from nothing_held) words) _ taken in
    let fills = second_none (settle_fault line.rules line.args_override_self end) _ ends in
    let none : list_any (lacks rows) line.rules ≡ false = cond_none _ _
    (second_none (defaults_fault (settled line.rules end).rows line.rules) _ fills) in
    let front = number_rules usage.number ++ map one_text usage.own in
    let all = sym (list_any-append (lacks rows) (rules_of usage) (help_rule ∷ []))
    ∙ sym (lacks_filled rows 1 (rules_of usage ++ help_rule ∷ [])) ∙ none in
    let given = sym (list_any-append (lacks rows) front (config_rules usage.configs)) ∙ or_left _ _ all in
    let first = sym (list_any-append (lacks rows) (number_rules usage.number) (map one_text usage.own)) ∙ or_left _ _ given in
    record {
      number = or_left _ _ first;
      own = or_right
          (list_any (lacks rows) (number_rules usage.number)) _ first;
      configs = or_right (list_any (lacks rows) front) _ given;
    }

-- ---- what is there has a value

abbrev pub row_named : Text → Row → Bool
row_named id r = bytes_eq r.id id

given_row : (id : Text) (rows : List Row) → is_given id rows ≡ true → (r : Row) × (find (row_named id) rows ≡ Some r)
given_row id rows given = go (find (row_named id) rows) given
  where
    go : (o : Option Row) → option_map_or (λ r. explicit_source r.source) o false ≡ true → (r : Row) × (o ≡ Some r)
    go None e = absurd (true≢false (sym e))
    go (Some r) e = (r, refl)

pub found_full : (test : Row → Bool) (rows : List Row) (r : Row) → Full rows → find test rows ≡ Some r → HasSome r.values
found_full test [] r full found = absurd (true≢false (sym (ap is_some found)))
found_full test (x ∷ rest) r full found = go (found_full test rest r full.1) (test x) found
  where
    go : (find test rest ≡ Some r → HasSome r.values) → (b : Bool) → cond b (Some x) (find test rest) ≡ Some r → HasSome r.values
    go later true e = subst (λ (y : Row). HasSome y.values) (some_is x r e) full.0
    go later false e = later e

first_some : (values : List Text) → HasSome values → (text : Text) × (slice_get values 0 ≡ Some text)
first_some [] none = absurd none
first_some (text ∷ rest) some = (text, refl)

has_text : (id : Text) (rows : List Row) → Full rows → is_given id rows ≡ true → (text : Text) × HasText rows id text
has_text id rows full given = grind (arith, common_steps, first_some, found_full, given_row)

have_texts : (rows : List Row) → Full rows → (ids : List Text) → list_any (lacks rows) (map one_text ids) ≡ false
    → (texts : List Text) × HaveTexts rows ids texts
have_texts rows full [] none = ([], tt)
have_texts rows full (id ∷ ids) none =
    let first = has_text id rows full (not-false _ (or_left _ _ none)) in
    let rest = have_texts rows full ids (or_right (not (is_given id rows)) _ none) in
    (first.0 ∷ rest.0, (first.1, rest.1))

has_configs : (configs : ConfigFiles) (rows : List Row) → Full rows → list_any (lacks rows) (config_rules configs) ≡ false
    → (names : List Text) × HasConfigs configs rows names
has_configs Several rows full none =
    let row = given_row (codes "CONFIG") rows (not-false _ (or_left _ _ none)) in
    (row.0.values, ap (λ (o : Option Row). option_map (λ r. r.values) o) row.1)
has_configs NoConfigs rows full none = ([], refl)
has_configs Networks rows full none = have_texts rows full network_names none

-- each argument wants a value
pub all_want : OfArguments WantsValue
all_want = grind (arith, common_steps, cons_not_nil)

-- so the rows of a line that takes the words have values
pub line_full : (usage : Usage) (words : List Text) → level_fault (built_line usage) [] nothing_held words false [] ≡ []
    → Full (rows_after (built_line usage).rules [] words)
line_full usage words taken = full_rows (built_line usage) words (each_of_line WantsValue all_want usage) taken

-- ---- the number and the options

number_is_off : (number : NumberTaken) (rows : List Row) → Full rows → list_any (lacks rows) (number_rules number) ≡ false
    → ((n : ℕ) → ¬ IsGivenNumber number (first_of (codes "N") rows) n) → IsValueOff number rows
number_is_off NoNumber rows full none nothing = absurd (nothing 0 refl)
number_is_off Budget rows full none nothing = go (first_of (codes "N") rows) refl nothing
  where
    go : (given : Option Text) → first_of (codes "N") rows ≡ given → ((n : ℕ) → ¬ IsGivenNumber Budget given n)
        → IsValueOff Budget rows
    go None is off = absurd (off 10000 refl)
    go (Some word) is off = number_off word is off
number_is_off Routers rows full none nothing =
    let word = has_text (codes "N") rows full (not-false _ (or_left _ _ none)) in
    number_off word.0 word.1 (λ n is. nothing n (subst (λ (given : Option Text). IsGivenNumber Routers given n) (sym word.1) is))
number_is_off WaveSize rows full none nothing =
    let word = has_text (codes "N") rows full (not-false _ (or_left _ _ none)) in
    number_off word.0 word.1 (λ n is. nothing n (subst (λ (given : Option Text). IsGivenNumber WaveSize given n) (sym word.1) is))
number_is_off DesignOptions rows full none nothing = absurd (nothing 0 refl)

-- there is an area, or it is off
area_or_off : (rows : List Row) (given : Option Text) → first_of (codes "AREA") rows ≡ given
    → ((area : Text) × IsGivenArea given area) ⊎ IsValueOff DesignOptions rows
area_or_off rows None is = inl (codes "49.0001", refl)
area_or_off rows (Some word) is = go (is_area word) refl
  where
    go : (b : Bool) → is_area word ≡ b → ((area : Text) × IsGivenArea (Some word) area) ⊎ IsValueOff DesignOptions rows
    go true fine = inl (word, (refl, fine))
    go false bad = inr (area_off word refl is bad)

-- there are levels, or they are off
levels_or_off : (rows : List Row) (given : Option Text) → first_of (codes "L") rows ≡ given
    → ((levels : Levels) × AreGivenLevels given levels) ⊎ IsValueOff DesignOptions rows
levels_or_off rows None is = inl (usual_scheme.levels, refl)
levels_or_off rows (Some word) is = go (levels_named word) refl
  where
    go : (o : Option Levels) → levels_named word ≡ o → ((levels : Levels) × AreGivenLevels (Some word) levels) ⊎ IsValueOff DesignOptions rows
    go (Some levels) fine = inl (levels, fine)
    go None bad = inr (level_off word refl is bad)

value_is_off : (number : NumberTaken) (rows : List Row) → Full rows → list_any (lacks rows) (number_rules number) ≡ false
    → ((n : ℕ) (scheme : AskedScheme) → IsGivenNumber number (first_of (codes "N") rows) n → ¬ IsGivenScheme number rows scheme)
    → IsValueOff number rows
value_is_off DesignOptions rows full none nothing =
    elim (area_or_off rows (first_of (codes "AREA") rows) refl) [
      | inr off ↦ off
      | inl area ↦ elim (levels_or_off rows (first_of (codes "L") rows) refl) [
        | inr off ↦ off
        | inl levels ↦ absurd (nothing 0 (scheme_of area.0 levels.0) refl (area.1, levels.1))
      ]
    ]
value_is_off NoNumber rows full none nothing = number_is_off NoNumber rows full none (λ n is. nothing n usual_scheme is refl)
value_is_off number rows full none nothing = number_is_off number rows full none (λ n is. nothing n usual_scheme is refl)

pub value_off : (words : List Text) → AreTaken words → ((command : Command) → ¬ Asks words command) → HasValueOff words
value_off words taken nothing =
    let line = enters_line words taken in
    let usage : Usage = usage_of line.kind in
    let rows : List Row = rows_after (built_of line.kind).rules [] line.rest in
    let full = line_full usage line.rest line.takes in
    let lacking = none_lacks usage line.rest line.takes in
    let own = have_texts rows full usage.own lacking.own in
    let configs = has_configs usage.configs rows full lacking.configs in
    let off = value_is_off usage.number rows full lacking.number
    (λ n scheme is of. nothing (record { kind = line.kind; own = own.0; configs = configs.0; number = n; scheme = scheme })
    (record {
      taken = taken;
      rows = rows;
      entered = line.entered;
      given = record
          { number = is; scheme = of; own = own.1; configs = configs.1 };
    })) in
    record { kind = line.kind; rows = rows; entered = line.entered; off = off }

-- ---- and a value that is off asks for nothing

off_gives_nothing : (number : NumberTaken) (rows : List Row) → IsValueOff number rows → (n : ℕ) (scheme : AskedScheme)
    → IsGivenNumber number (first_of (codes "N") rows) n → ¬ IsGivenScheme number rows scheme
off_gives_nothing taken rows (number_off word has off) n scheme is of =
    off n (subst (λ (o : Option Text). IsGivenNumber taken o n) has is)
off_gives_nothing _ rows (area_off word options has bad) n scheme is of =
    let given = subst (λ (k : NumberTaken). IsGivenScheme k rows scheme) options of in
    let area = subst (λ (o : Option Text). IsGivenArea o scheme.area) has given.0 in
    true≢false (sym area.1 ∙ bad)
off_gives_nothing _ rows (level_off word options has bad) n scheme is of =
    let given = subst (λ (k : NumberTaken). IsGivenScheme k rows scheme) options of in
    let levels = subst (λ (o : Option Text). AreGivenLevels o scheme.levels) has given.1 in
    true≢false (ap is_some (sym levels ∙ bad))

off_asks_nothing : (words : List Text) → HasValueOff words → (command : Command) → ¬ Asks words command
off_asks_nothing words off command asks = grind (arith, common_steps, off_gives_nothing, same_kind, some_is)

pub numbers : NumbersLaw
numbers words = record { off = value_off words; none = off_asks_nothing words }
