-- Plain words are taken, with just their values.
use Rattle.std.proofs.lemmas.Grind.{common_steps}
use Rattle.std.proofs.Common.{◌≡◌, ◌∙◌, ℕ, ◌+◌, ◌<◌, ◌≤◌, Bool, cond, true, false, nat_lt, List, [], ◌∷◌, ◌++◌, Option, Some}
use Rattle.std.proofs.Common.{None, length, map, refl, sym, ap, ap₂}
use Rattle.std.proofs.Common.{subst, append-nil, append_assoc, arith, codes}
use Rattle.std.proofs.lemmas.Bool.{ltb-true, ne_eqb}
use Rattle.std.proofs.lemmas.List.{map-append}
use Rattle.std.proofs.lemmas.List.Elements.{All-head}
use Rattle.std.proofs.lemmas.List.Folds.{find-append, list_any-append}
use Rattle.std.proofs.lemmas.Slice.Eq.{bytes_eq-Decides}
use Rattle.std.specs.List.{All, find, fold, list_any}
use Rattle.std.specs.Option.{option_map_or}
use Rattle.std.specs.Prelude.{◌&&◌, ◌||◌, if◌then◌else◌, not, option_and_then, option_map, slice_get}
use Rattle.clap.proofs.OnLiterals.{clap_on_literals}
use Rattle.clap.proofs.WalkLemmas.{both}
use Rattle.clap.specs.Facts.{explicit_source}
use Rattle.clap.specs.Words.{Row, Rule, Shape, Text, built, first_of}
use Rattle.clap.specs.Walk.{Held, Step, Walk, after_step, default_rows, has_row, is_empty, nothing_held, option, reading_by}
use Rattle.clap.specs.Walk.{walked, with_default}
use Rattle.clap.specs.Simple.{filled, filled_from, help_rule, with_index}
use Rattle.clap.specs.Takes.{is_given}
use Rattle.clap.specs.Kinds.{or_else}
use Rattle.clap.specs.Faults.{check_fault, defaults_fault, given_default_fault, step_fault}
use Rattle.net_addr.specs.Numerals.{IsNumeral}
use Rattle.net_model.specs.declared.config.Levels.{Levels}
use Rattle.design_file.specs.Values.{is_area, levels_named}
use Rattle.migrate_words.specs.Asked.{AreGivenLevels, Asks, HasConfigs, HaveTexts, IsGivenArea, IsGivenNumber, IsGivenScheme}
use Rattle.migrate_words.specs.Schemes.{AskedScheme, scheme_of, usual_scheme}
use Rattle.migrate_words.specs.CommandLine.{area_option, budget_option, command_line, config_rules, level_option, number_rules, one_text}
use Rattle.migrate_words.specs.Laws.{PlainWordsLaw}
use Rattle.migrate_words.specs.PlainWords.{ArePlainConfigs, IsPlainName, WritesArea, WritesLevels, WritesNumber}
use Rattle.migrate_words.specs.PlainWords.{area, budget, level, no_number, options, routers, usual_area, usual_budget, usual_levels, wave_size}
use Rattle.migrate_words.specs.Usages.{Usage, network_names, usage, usage_of}
use Rattle.migrate_words.specs.declared.command.CommandKind.{CommandKind}
use Rattle.migrate_words.specs.declared.command.CommandKind.TheVariants.{Check}
use Rattle.migrate_words.specs.declared.subcommands.ConfigFiles.{ConfigFiles}
use Rattle.migrate_words.specs.declared.subcommands.ConfigFiles.TheVariants.{NoConfigs, Several, Networks}
use Rattle.migrate_words.specs.declared.subcommands.NumberTaken.{NumberTaken}
use Rattle.migrate_words.specs.declared.subcommands.NumberTaken.TheVariants.{Budget, DesignOptions, Routers}
use Rattle.migrate_words.proofs.BuiltLines.{Each, OfArguments, built_line, built_of, each_of_line}
use Rattle.migrate_words.proofs.Entering.{NamesLine, Takes, entered_by, taken_by, takes_rows, takes_words}
use Rattle.migrate_words.proofs.PlainRows.{Behind, added, adds, are_new, are_new_append, config_ids, configs_stand, is_new, no_row}
use Rattle.migrate_words.proofs.PlainRows.{place_after, place_below, row_ids}
use Rattle.migrate_words.proofs.PlainRows.{takes_area, takes_budget, takes_level, takes_text, text_at, text_row, text_rows, texts_stand}
use Rattle.migrate_words.proofs.PlainWalk.{Ends, Settles, before, configs_walk, ends_after, ends_after_word, held_text, no_fault}
use Rattle.migrate_words.proofs.PlainWalk.{other_plain, text_settles}
use Rattle.migrate_words.proofs.PlainWalk.{texts_walk}
use Rattle.migrate_words.proofs.RowFacts.{find_none}
use Rattle.migrate_words.proofs.TakenLaws.{lacks, lacks_filled, row_named}

-- ---- the names of a line

-- the names of the files of a line
abbrev names_of : Usage → List Text
names_of line = line.own ++ config_ids line.configs

-- no name is that of an option of a design
abbrev are_no_options : List Text → Bool
are_no_options names =
    are_new (codes "AREA" ∷ []) names && (are_new (codes "L" ∷ []) names && (are_new (codes "AREA" ∷ codes "L" ∷ []) names
    && (is_new names (codes "AREA") && is_new names (codes "L"))))

-- the arguments of a line have different names, and there are few
abbrev are_apart : Usage → Bool
are_apart line = nat_lt (length line.own) 900 &&
    (are_new (codes "N" ∷ []) (names_of line) && (are_new [] (names_of line) && (is_new (names_of line) (codes "N") && are_no_options (names_of line))))

record AreApart (line : Usage) : Type 0 where
  few : length line.own < 900
  behind_number : are_new (codes "N" ∷ []) (names_of line) ≡ true
  alone : are_new [] (names_of line) ≡ true
  no_number : is_new (names_of line) (codes "N") ≡ true
  behind_area : are_new (codes "AREA" ∷ []) (names_of line) ≡ true
  behind_level : are_new (codes "L" ∷ []) (names_of line) ≡ true
  behind_both : are_new (codes "AREA" ∷ codes "L" ∷ []) (names_of line) ≡ true
  no_area : is_new (names_of line) (codes "AREA") ≡ true
  no_level : is_new (names_of line) (codes "L") ≡ true

apart : (line : Usage) → are_apart line ≡ true → AreApart line
apart line test = grind (arith, common_steps, are_new, both, is_new, ltb-true)

-- so it is of each command
each_apart : (kind : CommandKind) → are_apart (usage_of kind) ≡ true
each_apart Check = refl
each_apart kind = refl

-- ---- no argument has a default

no_defaults : OfArguments (λ a. a.defaults ≡ [])
no_defaults = grind (arith, common_steps)

default_stays : (rows : List Row) (a : Rule) → a.defaults ≡ [] → with_default rows a ≡ rows
default_stays rows a none =
    ap (λ (values : List Text). if has_row a.id rows then rows else default_rows a.id (reading_by a) values rows) none
    ∙ same (has_row a.id rows)
  where
    same : (b : Bool) → cond b rows rows ≡ rows
    same true = refl
    same false = refl

defaults_stay : (rules : List Rule) (rows : List Row) → Each (λ a. a.defaults ≡ []) rules → fold with_default rows rules ≡ rows
defaults_stay [] rows none = refl
defaults_stay (a ∷ rest) rows none = ap (λ (after : List Row). fold with_default after rest) (default_stays rows a none.0)
    ∙ defaults_stay rest rows none.1

defaults_quiet : (rules : List Rule) (rows : List Row) → Each (λ a. a.defaults ≡ []) rules → defaults_fault rows rules ≡ []
unfolding defaults_fault
defaults_quiet [] rows none = refl
defaults_quiet (a ∷ rest) rows none =
    ap₂ or_else
    (ap (λ (values : List Text). if has_row a.id rows || is_empty values then [] else given_default_fault a values) none.0
    ∙ quiet (has_row a.id rows))
    (ap (λ (after : List Row). defaults_fault after rest) (default_stays rows a none.0) ∙ defaults_quiet rest rows none.1)
  where
    quiet : (b : Bool) → (if b || true then [] else given_default_fault a []) ≡ []
    quiet true = refl
    quiet false = refl

-- ---- what the rows give

row_found : (final front after : List Row) (id : Text) (values : List Text) → final ≡ front ++ text_row id values ∷ after
    → has_row id front ≡ false
    → find (row_named id) final ≡ Some (text_row id values)
row_found final front after id values are none =
    grind (arith, common_steps, bytes_eq-Decides, find-append, find_none, row_named, text_row)

given_of : (id : Text) (final : List Row) (values : List Text) → find (row_named id) final ≡ Some (text_row id values)
    → not (is_given id final) ≡ false
given_of id final values found = ap (λ (o : Option Row). not (option_map_or (λ r. explicit_source r.source) o false)) found

-- the texts of a line have their values
texts_given : (final front : List Row) (ids texts : List Text) (after : List Row)
    → final ≡ front ++ (text_rows ids texts ++ after)
    → are_new (row_ids front) ids ≡ true → length texts ≡ length ids
    → HaveTexts final ids texts × (list_any (lacks final) (map one_text ids) ≡ false)
texts_given final front [] [] after are new long = (tt, refl)
texts_given final front [] (text ∷ texts) after are new long = absurd (omega (arith, long))
texts_given final front (id ∷ ids) [] after are new long = absurd (omega (arith, long))
texts_given final front (id ∷ ids) (text ∷ texts) after are new long =
    let row : Row = text_row id (text ∷ []) in
    let news = both (is_new (row_ids front) id) (are_new (row_ids front ++ id ∷ []) ids) new in
    let found = row_found final front (text_rows ids texts ++ after) id (text ∷ []) are (no_row id front news.0) in
    let rest = texts_given final (front ++ row ∷ []) ids texts after
    (are ∙ sym (append_assoc front (row ∷ []) (text_rows ids texts ++ after)))
    (subst (λ (seen : List Text). are_new seen ids ≡ true) (sym (map-append (λ (r : Row). r.id) front (row ∷ []))) news.1)
    (omega (arith, long)) in (
      (ap (λ (o : Option Row). option_and_then (λ r. slice_get r.values 0) o) found, rest.0),
      ap₂ (λ a b. a || b) (given_of id final (text ∷ []) found) rest.1,
    )

configs_given : (configs : ConfigFiles) (rows : List Row) (names : List Text) → are_new (row_ids rows) (config_ids configs) ≡ true
    → ArePlainConfigs configs names
    → HasConfigs configs (added configs rows names) names
    × (list_any (lacks (added configs rows names)) (config_rules configs) ≡ false)
configs_given Several rows [] new plain = absurd (plain.some refl)
configs_given Several rows (first ∷ others) new plain =
    let names = first ∷ others in
    let none = no_row (codes "CONFIG") rows (both (is_new (row_ids rows) (codes "CONFIG")) true new).0 in
    let found = row_found (adds rows names) rows [] (codes "CONFIG") names refl none in (
      ap (λ (o : Option Row). option_map (λ r. r.values) o) found,
      ap (λ (b : Bool). b || false) (given_of (codes "CONFIG") (adds rows names) names found),
    )
configs_given NoConfigs rows names new plain = (plain, refl)
configs_given Networks rows names new plain =
    texts_given (added Networks rows names) rows network_names names []
    (ap (λ (more : List Row). rows ++ more) (sym (append-nil (text_rows network_names names)))) new plain.two

-- ---- the number

-- the arguments behind the number
abbrev others_of : Usage → List Rule
others_of line = config_rules line.configs ++ help_rule ∷ []

-- rows that come after those of a number and of options
record AreFurther (more : List Row) : Type 0 where
  number : has_row (codes "N") more ≡ false
  area : has_row (codes "AREA") more ≡ false
  level : has_row (codes "L") more ≡ false

-- plain words for the number of a line: the line takes them, with these rows, and they give it, and the scheme
record NumberWalk (line : Usage) (words : List Text) (n : ℕ) (scheme : AskedScheme) : Type 0 where
  rows : List Row
  new : are_new (row_ids rows) (names_of line) ≡ true
  place : ℕ
  small : place ≤ 2
  seen : List Text
  apart : are_new seen (names_of line) ≡ true
  behind : Behind (built_line line).rules place seen (map one_text line.own ++ others_of line)
  walk : (rest : List Text) (final : List Row)
      → ((h : Held) → Settles (built_line line) h rows → Ends (built_line line) (before h false place) rest final)
      → Ends (built_line line) (before nothing_held false 1) (words ++ rest) final
  given : (more : List Row) → AreFurther more → IsGivenNumber line.number (first_of (codes "N") (rows ++ more)) n
      × IsGivenScheme line.number (rows ++ more) scheme
      × (list_any (lacks (rows ++ more)) (number_rules line.number) ≡ false)

-- the rules of a line, behind that for its number
rules_behind : (own : List Text) (configs : ConfigFiles)
    → (map one_text own ++ config_rules configs) ++ help_rule ∷ [] ≡ map one_text own ++ (config_rules configs ++ help_rule ∷ [])
rules_behind own configs = append_assoc (map one_text own) (config_rules configs) (help_rule ∷ [])

nothing_settles : (s : Shape) → Settles s nothing_held []
nothing_settles s = record { fits = refl; held = refl }

-- after `--budget`, which waits for its text
abbrev after_budget : Walk
after_budget = record {
  held = record { rows = []; pending = Some (codes "N", []); skip = 0 };
  waiting = option (codes "N");
  position = 1;
  is_trailing = false;
  stopped = None;
}

module _ (word : Text) (own : List Text) (configs : ConfigFiles) where
  with_budget : Shape
  with_budget = built_line (usage word Budget own configs)

  budget_first : (rest : List Text) (rows : List Row) → Ends with_budget after_budget rest rows
      → Ends with_budget (before nothing_held false 1) (codes "--budget" ∷ rest) rows
  unfolding clap_on_literals with_budget
  budget_first rest rows ends = ends_after with_budget (before nothing_held false 1) after_budget
      (codes "--budget") rest rows refl refl ends

  number_next : (number : Text) (rest : List Text) (rows : List Row) → IsPlainName number
      → Ends with_budget (before (held_text [] (codes "N") number) false 1) rest rows
      → Ends with_budget after_budget (number ∷ rest) rows
  unfolding walked with_budget
  number_next [] rest rows plain ends = absurd plain
  number_next (x ∷ xs) rest rows plain ends =
      let waits = other_plain with_budget.rules after_budget.waiting 1 x xs after_budget.held (ne_eqb x 45 plain) in
      ends_after with_budget after_budget (before (held_text [] (codes "N") (x ∷ xs)) false 1) (x ∷ xs) rest rows
      (ap₂ or_else (no_fault with_budget x xs after_budget.held (ne_eqb x 45 plain))
      (ap (λ (p : Held × Step). step_fault with_budget 1 p.0 p.1) waits))
      (ap (λ (p : Held × Step). after_step with_budget.rules (x ∷ xs) after_budget p.0 p.1) waits) ends

-- a numeral begins with a digit
numeral_plain : (word : Text) (n : ℕ) → IsNumeral word n → IsPlainName word
numeral_plain word n numeral = grind (arith, common_steps, All-head)

-- a number that is the first argument of a line, a text of its own
number_front : (own : List Text) (configs : ConfigFiles)
    → Behind (filled_from 1 ((one_text (codes "N") ∷ map one_text own ++ config_rules configs) ++ help_rule ∷ [])) 2 (codes "N" ∷ [])
    (map one_text own ++ (config_rules configs ++ help_rule ∷ []))
number_front own configs = record {
  front = text_at 1 (codes "N") ∷ [];
  rules_are = ap (λ (rules : List Rule). filled_from 1 (one_text (codes "N") ∷ rules)) (rules_behind own configs);
  under = (omega arith, tt);
  names = refl;
}

module _ (word : Text) (own : List Text) (configs : ConfigFiles) where
  abbrev with_number_first : Shape
  with_number_first = built_line (usage word Routers own configs)

  number_first : (number : Text) (rest : List Text) (final : List Row) → IsPlainName number
      → ((h : Held) → Settles with_number_first h (text_row (codes "N") (number ∷ []) ∷ [])
      → Ends with_number_first (before h false 2) rest final)
      → Ends with_number_first (before nothing_held false 1) (number ∷ rest) final
  number_first [] rest final plain follows = absurd plain
  number_first (x ∷ xs) rest final plain follows =
      ends_after_word with_number_first nothing_held [] false 1 (text_at 1 (codes "N")) x xs rest final (nothing_settles with_number_first)
      (ne_eqb x 45 plain) refl refl refl
      (follows (held_text [] (codes "N") (x ∷ xs))
      (text_settles with_number_first (text_at 1 (codes "N")) (codes "N") (x ∷ xs) [] refl refl (takes_text 1 (codes "N")) refl))

-- an area begins with a digit, and so does a word for levels
area_plain : (word : Text) → is_area word ≡ true → IsPlainName word
area_plain word is = grind (arith, common_steps, both)

level_plain : (word : Text) (levels : Levels) → levels_named word ≡ Some levels → IsPlainName word
level_plain word levels is = grind (arith, common_steps)

-- ---- the options of a design

-- after an option, which waits for its text
abbrev after_option : List Row → Text → Walk
after_option rows id = record {
  held = record { rows = rows; pending = Some (id, []); skip = 0 };
  waiting = option id;
  position = 1;
  is_trailing = false;
  stopped = None;
}

-- the rows of an area and of levels
abbrev area_rows : Text → List Row
area_rows text = text_row (codes "AREA") (text ∷ []) ∷ []

abbrev level_rows : Text → List Row
level_rows text = text_row (codes "L") (text ∷ []) ∷ []

module _ (word : Text) (own : List Text) (configs : ConfigFiles) where
  with_options : Shape
  with_options = built_line (usage word DesignOptions own configs)

  area_first : (rest : List Text) (rows : List Row) → Ends with_options (after_option [] (codes "AREA")) rest rows
      → Ends with_options (before nothing_held false 1) (codes "--area" ∷ rest) rows
  unfolding clap_on_literals with_options
  area_first rest rows ends = ends_after with_options (before nothing_held false 1) (after_option [] (codes "AREA"))
      (codes "--area") rest rows refl refl ends

  level_first : (rest : List Text) (rows : List Row) → Ends with_options (after_option [] (codes "L")) rest rows
      → Ends with_options (before nothing_held false 1) (codes "--level" ∷ rest) rows
  unfolding clap_on_literals with_options
  level_first rest rows ends = ends_after with_options (before nothing_held false 1) (after_option [] (codes "L"))
      (codes "--level") rest rows refl refl ends

  -- an area was given before
  level_next : (text : Text) (rest : List Text) (rows : List Row) → Ends with_options (after_option (area_rows text) (codes "L")) rest rows
      → Ends with_options (before (held_text [] (codes "AREA") text) false 1) (codes "--level" ∷ rest) rows
  unfolding clap_on_literals with_options
  level_next text rest rows ends =
      ends_after with_options (before (held_text [] (codes "AREA") text) false 1) (after_option (area_rows text) (codes "L"))
      (codes "--level") rest rows refl refl ends

  area_text : (text : Text) (rest : List Text) (rows : List Row) → IsPlainName text
      → Ends with_options (before (held_text [] (codes "AREA") text) false 1) rest rows
      → Ends with_options (after_option [] (codes "AREA")) (text ∷ rest) rows
  unfolding walked with_options
  area_text [] rest rows plain ends = absurd plain
  area_text (x ∷ xs) rest rows plain ends =
      let after : Walk = after_option [] (codes "AREA") in
      let waits = other_plain with_options.rules after.waiting 1 x xs after.held (ne_eqb x 45 plain) in
      ends_after with_options after (before (held_text [] (codes "AREA") (x ∷ xs)) false 1) (x ∷ xs) rest rows
      (ap₂ or_else (no_fault with_options x xs after.held (ne_eqb x 45 plain))
      (ap (λ (p : Held × Step). step_fault with_options 1 p.0 p.1) waits))
      (ap (λ (p : Held × Step). after_step with_options.rules (x ∷ xs) after p.0 p.1) waits) ends

  level_text : (front : List Row) (text : Text) (rest : List Text) (rows : List Row) → IsPlainName text
      → Ends with_options (before (held_text front (codes "L") text) false 1) rest rows
      → Ends with_options (after_option front (codes "L")) (text ∷ rest) rows
  unfolding walked with_options
  level_text front [] rest rows plain ends = absurd plain
  level_text front (x ∷ xs) rest rows plain ends =
      let after : Walk = after_option front (codes "L") in
      let waits = other_plain with_options.rules after.waiting 1 x xs after.held (ne_eqb x 45 plain) in
      ends_after with_options after (before (held_text front (codes "L") (x ∷ xs)) false 1) (x ∷ xs) rest rows
      (ap₂ or_else (no_fault with_options x xs after.held (ne_eqb x 45 plain))
      (ap (λ (p : Held × Step). step_fault with_options 1 p.0 p.1) waits))
      (ap (λ (p : Held × Step). after_step with_options.rules (x ∷ xs) after p.0 p.1) waits) ends

  -- both options stand before the files, and have no place of their own
  options_behind : Behind with_options.rules 1 (codes "AREA" ∷ codes "L" ∷ []) (map one_text own ++ (config_rules configs ++ help_rule ∷ []))
  unfolding with_options
  options_behind = record {
    front = with_index 1 (filled area_option) ∷ with_index 1 (filled level_option) ∷ [];
    rules_are = ap
        (λ (rules : List Rule). filled_from 1 (area_option ∷ level_option ∷ rules)) (rules_behind own configs);
    under = (tt, (tt, tt));
    names = refl;
  }

-- no row of this name gives nothing
none_first : (id : Text) (more : List Row) → has_row id more ≡ false → first_of id more ≡ None
none_first id more none = ap (λ (o : Option Row). option_and_then (λ r. slice_get r.values 0) o) (find_none (row_named id) more none)

options_walk : (word : Text) (own : List Text) (configs : ConfigFiles) (area_words level_words : List Text) (area : Text) (levels : Levels)
    → WritesArea area_words area → WritesLevels level_words levels → AreApart (usage word DesignOptions own configs)
    → NumberWalk (usage word DesignOptions own configs) (area_words ++ level_words) 0 (scheme_of area levels)
unfolding with_options
options_walk word own configs _ _ _ _ usual_area usual_levels are = record {
  rows = [];
  new = are.alone;
  place = 1;
  small = omega arith;
  seen = codes "AREA" ∷ codes "L" ∷ [];
  apart = are.behind_both;
  behind = options_behind word own configs;
  walk = λ rest final follows. follows nothing_held (nothing_settles _);
  given = λ more none. (
    refl,
    (
      subst (λ (o : Option Text). IsGivenArea o (codes "49.0001")) (sym (none_first (codes "AREA") more none.area)) refl,
      subst (λ (o : Option Text). AreGivenLevels o usual_scheme.levels) (sym (none_first (codes "L") more none.level)) refl,
    ),
    refl,
  );
}
options_walk word own configs _ _ _ _ (area text is) usual_levels are = record {
  rows = area_rows text;
  new = are.behind_area;
  place = 1;
  small = omega arith;
  seen = codes "AREA" ∷ codes "L" ∷ [];
  apart = are.behind_both;
  behind = options_behind word own configs;
  walk = λ rest final follows. area_first word own configs (text ∷ rest) final
      (area_text word own configs text rest final (area_plain text is) (follows (held_text [] (codes "AREA") text)
      (text_settles (with_options word own configs) _ (codes "AREA") text [] refl refl (takes_area 1) refl)));
  given = λ more none. (
    refl,
    (
      (refl, is),
      subst (λ (o : Option Text). AreGivenLevels o usual_scheme.levels) (sym (none_first (codes "L") more none.level)) refl,
    ),
    refl,
  );
}
options_walk word own configs _ _ _ _ usual_area (level text levels is) are = record {
  rows = level_rows text;
  new = are.behind_level;
  place = 1;
  small = omega arith;
  seen = codes "AREA" ∷ codes "L" ∷ [];
  apart = are.behind_both;
  behind = options_behind word own configs;
  walk = λ rest final follows. level_first word own configs (text ∷ rest) final
      (level_text word own configs [] text rest final (level_plain text levels is) (follows (held_text [] (codes "L") text)
      (text_settles (with_options word own configs) _ (codes "L") text [] refl refl (takes_level 1) refl)));
  given = λ more none. (
    refl,
    (
      subst (λ (o : Option Text). IsGivenArea o (codes "49.0001")) (sym (none_first (codes "AREA") more none.area)) refl,
      is,
    ),
    refl,
  );
}
options_walk word own configs _ _ _ _ (area text is) (level other levels says) are = record {
  rows = area_rows text ++ level_rows other;
  new = are.behind_both;
  place = 1;
  small = omega arith;
  seen = codes "AREA" ∷ codes "L" ∷ [];
  apart = are.behind_both;
  behind = options_behind word own configs;
  walk = λ rest final follows. area_first word own configs (text ∷ codes "--level" ∷ other ∷ rest) final
      (area_text word own configs text (codes "--level" ∷ other ∷ rest) final (area_plain text is)
      (level_next word own configs text (other ∷ rest) final
      (level_text word own configs (area_rows text) other rest final (level_plain other levels says)
      (follows (held_text (area_rows text) (codes "L") other)
      (text_settles (with_options word own configs) _ (codes "L") other (area_rows text) refl refl (takes_level 1) refl)))));
  given = λ more none. (refl, ((refl, is), says), refl);
}

-- ---- any number

number_walk : (word : Text) (number : NumberTaken) (own : List Text) (configs : ConfigFiles) (words : List Text) (n : ℕ) (scheme : AskedScheme)
    → WritesNumber number words n scheme
    → AreApart (usage word number own configs) → NumberWalk (usage word number own configs) words n scheme
unfolding with_budget
number_walk word _ own configs _ _ _ (options area_words level_words its_area its_levels writes_area writes_levels) are =
    options_walk word own configs area_words level_words its_area its_levels writes_area writes_levels are
number_walk word _ own configs _ _ _ no_number are = record {
  rows = [];
  new = are.alone;
  place = 1;
  small = omega arith;
  seen = [];
  apart = are.alone;
  behind = record { front = []; rules_are = ap (filled_from 1) (rules_behind own configs); under = tt; names = refl };
  walk = λ rest final follows. follows nothing_held (nothing_settles _);
  given = λ more none. (refl, refl, refl);
}
number_walk word _ own configs _ _ _ usual_budget are = record {
  rows = [];
  new = are.alone;
  place = 1;
  small = omega arith;
  seen = codes "N" ∷ [];
  apart = are.behind_number;
  behind = record {
    front = with_index 1 (filled budget_option) ∷ [];
    rules_are = ap
        (λ (rules : List Rule). filled_from 1 (budget_option ∷ rules)) (rules_behind own configs);
    under = (tt, tt);
    names = refl;
  };
  walk = λ rest final follows. follows nothing_held (nothing_settles _);
  given = λ more none. (
    subst (λ (given : Option Text). IsGivenNumber Budget given 10000)
        (sym (none_first (codes "N") more none.number)) refl,
    refl,
    refl,
  );
}
number_walk word _ own configs _ _ _ (budget text n is) are = record {
  rows = text_row (codes "N") (text ∷ []) ∷ [];
  new = are.behind_number;
  place = 1;
  small = omega arith;
  seen = codes "N" ∷ [];
  apart = are.behind_number;
  behind = record {
    front = with_index 1 (filled budget_option) ∷ [];
    rules_are = ap
        (λ (rules : List Rule). filled_from 1 (budget_option ∷ rules)) (rules_behind own configs);
    under = (tt, tt);
    names = refl;
  };
  walk = λ rest final follows. budget_first word own configs (text ∷ rest) final
      (number_next word own configs text rest final (numeral_plain text n is.numeral.numeral)
      (follows (held_text [] (codes "N") text)
      (text_settles (with_budget word own configs) _ (codes "N") text [] refl refl (takes_budget 1) refl)));
  given = λ more none. (is, refl, refl);
}
number_walk word _ own configs _ _ _ (routers text n is) are = record {
  rows = text_row (codes "N") (text ∷ []) ∷ [];
  new = are.behind_number;
  place = 2;
  small = omega arith;
  seen = codes "N" ∷ [];
  apart = are.behind_number;
  behind = number_front own configs;
  walk = λ rest final follows. number_first word own configs text rest final (numeral_plain text n is.numeral.numeral) follows;
  given = λ more none. (is, refl, refl);
}
number_walk word _ own configs _ _ _ (wave_size text n is) are = record {
  rows = text_row (codes "N") (text ∷ []) ∷ [];
  new = are.behind_number;
  place = 2;
  small = omega arith;
  seen = codes "N" ∷ [];
  apart = are.behind_number;
  behind = number_front own configs;
  walk = λ rest final follows. number_first word own configs text rest final (numeral_plain text n is.numeral.numeral) follows;
  given = λ more none. (is, refl, refl);
}

-- ---- a whole line

-- the names of the rows of texts
text_ids : (ids texts : List Text) → length texts ≡ length ids → row_ids (text_rows ids texts) ≡ ids
text_ids [] [] long = refl
text_ids [] (text ∷ texts) long = absurd (omega (arith, long))
text_ids (id ∷ ids) [] long = absurd (omega (arith, long))
text_ids (id ∷ ids) (text ∷ texts) long = ap (λ (names : List Text). id ∷ names) (text_ids ids texts (omega (arith, long)))

-- the row of the configuration files, if there are any
abbrev file_rows : List Text → List Row
file_rows [] = []
file_rows (first ∷ others) = text_row (codes "CONFIG") (first ∷ others) ∷ []

-- the rows of the configuration files of a command
abbrev config_rows : ConfigFiles → List Text → List Row
config_rows NoConfigs names = file_rows names
config_rows Several names = file_rows names
config_rows Networks names = text_rows network_names names

adds_rows : (rows : List Row) (names : List Text) → adds rows names ≡ rows ++ file_rows names
adds_rows rows names = grind (arith, common_steps)

added_rows : (configs : ConfigFiles) (rows : List Row) (names : List Text) → added configs rows names ≡ rows ++ config_rows configs names
added_rows configs rows names = grind (arith, common_steps, adds_rows)

config_names : (configs : ConfigFiles) (names : List Text) → ArePlainConfigs configs names
    → row_ids (config_rows configs names) ≡ config_ids configs
config_names configs names plain = grind (arith, common_steps, row_ids, text_ids)

-- no required argument is missing
none_missing : (line : Usage) (rows : List Row) → list_any (lacks rows) (number_rules line.number) ≡ false
    → list_any (lacks rows) (map one_text line.own) ≡ false
    → list_any (lacks rows) (config_rules line.configs) ≡ false → check_fault (built_line line) rows false ≡ []
none_missing line rows number own configs = grind (arith, common_steps, lacks, lacks_filled, list_any-append)

-- the line takes plain words, with these rows, and they give the command
record PlainLine (line : Usage) (words own configs : List Text) (n : ℕ) (scheme : AskedScheme) : Type 0 where
  rows : List Row
  takes : Takes (built_line line) words rows
  number_is : IsGivenNumber line.number (first_of (codes "N") rows) n
  scheme_is : IsGivenScheme line.number rows scheme
  own_are : HaveTexts rows line.own own
  configs_are : HasConfigs line.configs rows configs

plain_line : (line : Usage) (number_words own configs : List Text) (n : ℕ) (scheme : AskedScheme) → AreApart line
    → NumberWalk line number_words n scheme
    → length own ≡ length line.own
    → All IsPlainName own → ArePlainConfigs line.configs configs → PlainLine line (number_words ++ (own ++ configs)) own configs n scheme
plain_line line number_words own configs n scheme are number long plain plain_configs =
    let s : Shape = built_line line in
    let texts : List Row = text_rows line.own own in
    let front : List Row = number.rows ++ texts in
    let final : List Row = added line.configs front configs in
    let new = are_new_append (row_ids number.rows) line.own (config_ids line.configs) number.new in
    let apart_names = are_new_append number.seen line.own (config_ids line.configs) number.apart in
    let few : number.place + length line.own < 910 = omega (arith, number.small, are.few) in
    let there = place_below number.place line.own in
    let stand = texts_stand s.rules line.own number.seen number.place (others_of line) number.behind apart_names.0 (omega (arith, few)) in
    let stand_configs = configs_stand s.rules (number.seen ++ line.own) (place_after number.place line.own) line.configs
    (help_rule ∷ []) (omega (arith, few, there)) stand.1 apart_names.1 in
    let ids = map-append (λ (r : Row). r.id) number.rows texts
    ∙ ap (λ (names : List Text). row_ids number.rows ++ names) (text_ids line.own own long) in
    let new_configs = subst (λ (names : List Text). are_new names (config_ids line.configs) ≡ true) (sym ids) new.1 in
    let behind : List Row = config_rows line.configs configs in
    let more : List Row = texts ++ behind in
    let final_is = added_rows line.configs front configs ∙ append_assoc number.rows texts behind in
    let more_ids = map-append (λ (r : Row). r.id) texts behind
    ∙ ap₂ (λ (a b : List Text). a ++ b) (text_ids line.own own long) (config_names line.configs configs plain_configs) in
    let further : (id : Text) → is_new (names_of line) id ≡ true → has_row id more ≡ false =
    λ id new. no_row id more (subst (λ (names : List Text). is_new names id ≡ true) (sym more_ids) new) in
    let given = subst
    (λ (rows : List Row). IsGivenNumber line.number
    (first_of (codes "N") rows) n × IsGivenScheme line.number rows scheme × (list_any (lacks rows) (number_rules line.number) ≡ false))
    (sym final_is) (number.given more (record {
      number = further (codes "N") are.no_number;
      area = further (codes "AREA") are.no_area;
      level = further (codes "L") are.no_level;
    })) in
    let own_given = texts_given final number.rows line.own own behind final_is new.0 long in
    let configs_are = configs_given line.configs front configs new_configs plain_configs in
    let none = each_of_line (λ a. a.defaults ≡ []) no_defaults line in
    record {
      rows = final;
      takes = record {
        ends = number.walk (own ++ configs) final
            (λ h settles. texts_walk s line.own own h number.rows number.place configs final refl settles stand.0 new.0 long plain
            (λ after settled. configs_walk s line.configs configs after front
            (place_after number.place line.own) refl settled stand_configs new_configs plain_configs));
        quiet = ap₂ or_else (defaults_quiet s.rules final none)
            (ap (λ (rows : List Row). check_fault s rows false) (defaults_stay s.rules final none)
            ∙ none_missing line final given.2 own_given.1 configs_are.1);
        full = defaults_stay s.rules final none;
      };
      number_is = given.0;
      scheme_is = given.1;
      own_are = own_given.0;
      configs_are = configs_are.0;
    }

-- ---- the words of a command

-- the word of a command names its subcommand
names_line : (kind : CommandKind) → NamesLine (built command_line) (usage_of kind).word (built_of kind)
unfolding command_line defaults_fault
names_line Check = record { met = refl; other = refl; found = refl; quiet = refl }
names_line kind = record { met = refl; other = refl; found = refl; quiet = refl }

pub plain_words : PlainWordsLaw
unfolding command_line
plain_words words command plain =
    let line : Usage = usage_of command.kind in
    let are = apart line (each_apart command.kind) in
    let number = number_walk line.word line.number line.own line.configs plain.number_words command.number command.scheme plain.number are in
    let all = plain_line line plain.number_words command.own command.configs command.number command.scheme are number plain.count plain.own
    plain.configs in
    let rest = plain.number_words ++ (command.own ++ command.configs) in
    let words_are : words ≡ line.word ∷ rest = plain.words_are
    ∙ append_assoc (line.word ∷ plain.number_words) command.own command.configs in
    let names = names_line command.kind in
    subst (λ (some : List Text). Asks some command) (sym words_are) (record {
      taken = taken_by (built command_line) line.word (built_of command.kind) rest names
          (takes_words (built_of command.kind) rest all.rows all.takes);
      rows = all.rows;
      entered = entered_by (built command_line) line.word (built_of command.kind) rest names
          ∙ ap (λ (found : List Row). Some (line.word, found)) (takes_rows (built_of command.kind) rest all.rows all.takes);
      given = record { number = all.number_is; scheme = all.scheme_is; own = all.own_are; configs = all.configs_are };
    })
