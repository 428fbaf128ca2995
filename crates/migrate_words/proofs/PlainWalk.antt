-- How the parse of a subcommand walks over plain words.
use Rattle.std.proofs.lemmas.Grind.{common_steps}
use Rattle.std.proofs.Common.{◌≡◌, ◌∙◌, ℕ, ◌+◌, Bool, cond, true, false, List, [], ◌∷◌, ◌++◌, Option, Some, None, length, min}
use Rattle.std.proofs.Common.{refl, sym, ap, ap₂, subst}
use Rattle.std.proofs.Common.{append-nil, append_assoc, arith, codes}
use Rattle.std.specs.List.{All, fold}
use Rattle.std.specs.Option.{option_map_or}
use Rattle.std.specs.Prelude.{◌==◌, ◌&&◌, if◌then◌else◌, option_and_then}
use Rattle.std.specs.Str.{bytes_eq}
use Rattle.std.proofs.lemmas.Bool.{ne_eqb}
use Rattle.std.proofs.lemmas.List.{map-append}
use Rattle.std.proofs.lemmas.List.Elements.{All-head, All-tail}
use Rattle.std.proofs.Math.Bool.{and-false}
use Rattle.clap.proofs.WalkLemmas.{both}
use Rattle.clap.specs.Words.{Row, Rule, Shape, Text}
use Rattle.clap.specs.Walk.{Held, Waiting, Walk, arg_by_id, arg_by_index, has_row, idle, is_multiple}
use Rattle.clap.specs.Walk.{is_pending, long_or_other}
use Rattle.clap.specs.Walk.{next_position, plain_word, positional, positional_held, pushed, settled, short_or_plain}
use Rattle.clap.specs.Walk.{subcommand_or_other, takes_several}
use Rattle.clap.specs.Walk.{to_positional, trailing, used_by_id, value, walked, word_met}
use Rattle.clap.specs.Kinds.{or_else}
use Rattle.clap.specs.Lexer.{long_of, short_of, short_of_rest, strip_byte, usize_max}
use Rattle.clap.specs.Faults.{bundle_fault, flag_word_fault, other_fault, positional_fault, settle_fault, step_fault}
use Rattle.clap.specs.Faults.{turn_fault}
use Rattle.clap.specs.Faults.{use_fault, walk_fault, word_fault}
use Rattle.migrate_words.specs.PlainWords.{ArePlainConfigs, IsPlainName}
use Rattle.migrate_words.specs.declared.subcommands.ConfigFiles.{ConfigFiles}
use Rattle.migrate_words.specs.declared.subcommands.ConfigFiles.TheVariants.{NoConfigs, Several, Networks}
use Rattle.migrate_words.specs.Usages.{network_names}
use Rattle.migrate_words.proofs.PlainRows.{AllStand, ConfigsStand, StandsAt, TakesText, adds, are_new, added, config_ids, files_at}
use Rattle.migrate_words.proofs.PlainRows.{is_new, no_row, one_more_config}
use Rattle.migrate_words.proofs.PlainRows.{place_after, row_ids, takes_text, text_at, text_row, text_rows}

-- what may follow a positional
abbrev pub waits : Bool → Waiting
waits several = cond several positional idle

-- where the walk stands before a word that may go to the positional of this place
abbrev pub before : Held → Bool → ℕ → Walk
before h several place = record { held = h; waiting = waits several; position = place; is_trailing = false; stopped = None }

-- the word doesn't begin with `-`, so it is no flag
strip_none : (x : ℕ) (xs : Text) → (x == 45) ≡ false → strip_byte 45 (x ∷ xs) ≡ None
strip_none x xs plain = ap (λ (b : Bool). if b then Some xs else None) plain

no_dashes : (x : ℕ) (xs : Text) → (x == 45) ≡ false → bytes_eq (x ∷ xs) (45 ∷ 45 ∷ []) ≡ false
no_dashes x xs plain = ap (λ (b : Bool). b && bytes_eq xs (45 ∷ [])) plain

no_long : (x : ℕ) (xs : Text) → (x == 45) ≡ false → long_of (x ∷ xs) ≡ None
no_long x xs plain = grind (arith, common_steps, strip_none)

no_short : (x : ℕ) (xs : Text) → (x == 45) ≡ false → short_of (x ∷ xs) ≡ None
no_short x xs plain = ap (λ (o : Option Text). option_and_then short_of_rest o) (strip_none x xs plain)

pub other_plain : (c : List Rule) (waiting : Waiting) (place x : ℕ) (xs : Text) (h : Held) → (x == 45) ≡ false
    → subcommand_or_other c None waiting place (x ∷ xs) h ≡ plain_word c waiting (x ∷ xs) h
other_plain c waiting place x xs h plain =
    ap (λ (b : Bool). if b then (h, trailing place) else long_or_other c waiting (x ∷ xs) (long_of (x ∷ xs)) h)
    (no_dashes x xs plain)
    ∙ ap (λ (o : Option (Text × Option Text)). long_or_other c waiting (x ∷ xs) o h) (no_long x xs plain)
    ∙ ap (λ (o : Option Text). short_or_plain c waiting (x ∷ xs) o h) (no_short x xs plain)

met_plain : (c : List Rule) (several : Bool) (place x : ℕ) (xs : Text) (h : Held) → (x == 45) ≡ false
    → word_met c [] false (waits several) place (x ∷ xs) h ≡ (h, value)
met_plain c several place x xs h plain = grind (arith, common_steps, other_plain)

pub no_fault : (s : Shape) (x : ℕ) (xs : Text) (h : Held) → (x == 45) ≡ false → other_fault s None (x ∷ xs) h ≡ []
no_fault s x xs h plain =
    ap (λ (b : Bool). if b then [] else flag_word_fault s.rules s.args_override_self (long_of (x ∷ xs)) (x ∷ xs) h)
    (no_dashes x xs plain)
    ∙ ap (λ (o : Option (Text × Option Text)). flag_word_fault s.rules s.args_override_self o (x ∷ xs) h) (no_long x xs plain)
    ∙ ap (λ (o : Option Text). option_map_or (λ flags. bundle_fault s.rules s.args_override_self flags h) o [])
    (no_short x xs plain)

word_plain : (s : Shape) (several : Bool) (x : ℕ) (xs : Text) (h : Held) → (x == 45) ≡ false
    → word_fault s [] false (waits several) (x ∷ xs) h ≡ []
word_plain s several x xs h plain = grind (arith, common_steps, no_fault)

walked_plain : (c : List Rule) (several : Bool) (place x : ℕ) (xs : Text) (h : Held) → (x == 45) ≡ false
    → walked c [] (before h several place) (x ∷ xs) ≡ to_positional c (arg_by_index c place) (x ∷ xs) (before h several place) h
unfolding walked
walked_plain c several place x xs h plain = grind (arith, common_steps, met_plain)

turn_plain : (s : Shape) (several : Bool) (place x : ℕ) (xs : Text) (h : Held) → (x == 45) ≡ false
    → turn_fault s [] (before h several place) (x ∷ xs) ≡ step_fault s place h value
turn_plain s several place x xs h plain = grind (arith, common_steps, met_plain, word_plain)

-- the walk takes the words and what is held at its end, and comes to these rows
pub record Ends (s : Shape) (w : Walk) (words : List Text) (rows : List Row) : Type 0 where
  pub walks : walk_fault s [] w words ≡ []
  pub settles : settle_fault s.rules s.args_override_self (fold (walked s.rules []) w words).held ≡ []
  pub rows_are : (settled s.rules (fold (walked s.rules []) w words).held).rows ≡ rows

-- one more word
pub ends_after : (s : Shape) (w after : Walk) (word : Text) (rest : List Text) (rows : List Row) → turn_fault s [] w word ≡ []
    → walked s.rules [] w word ≡ after
    → Ends s after rest rows → Ends s w (word ∷ rest) rows
unfolding walk_fault
ends_after s w after word rest rows turn is ends = record {
  walks = ap₂ or_else turn (ap (λ (v : Walk). walk_fault s [] v rest) is ∙ ends.walks);
  settles = ap (λ (v : Walk). settle_fault s.rules s.args_override_self (fold (walked s.rules []) v rest).held) is ∙ ends.settles;
  rows_are = ap (λ (v : Walk). (settled s.rules (fold (walked s.rules []) v rest).held).rows) is ∙ ends.rows_are;
}

-- a plain word goes to the positional of its place
pub ends_after_plain : (s : Shape) (h : Held) (several : Bool) (place : ℕ) (a : Rule) (x : ℕ) (xs : Text) (rest : List Text)
    (rows : List Row)
    → (x == 45) ≡ false → arg_by_index s.rules place ≡ Some a → a.trailing_var_arg ≡ false
    → positional_fault s.rules s.args_override_self a h ≡ []
    → Ends s (before (positional_held s.rules a (x ∷ xs) h) (is_multiple a) (next_position a place)) rest rows
    → Ends s (before h several place) ((x ∷ xs) ∷ rest) rows
ends_after_plain s h several place a x xs rest rows plain found stays taken ends =
    grind (arith, common_steps, ends_after, turn_plain, walked_plain)

-- ---- what is held

-- these rows, and nothing that waits
abbrev pub held_rows : List Row → Held
held_rows rows = record { rows = rows; pending = None; skip = 0 }

-- these rows, and one text that waits to be used
abbrev pub held_text : List Row → Text → Text → Held
held_text rows id text = record { rows = rows; pending = Some (id, text ∷ []); skip = 0 }

-- what is held may be used, and comes to these rows
pub record Settles (s : Shape) (h : Held) (rows : List Row) : Type 0 where
  pub fits : settle_fault s.rules s.args_override_self h ≡ []
  pub held : settled s.rules h ≡ held_rows rows

pub text_settles : (s : Shape) (a : Rule) (id text : Text) (rows : List Row) → s.args_override_self ≡ false
    → arg_by_id s.rules id ≡ Some a → TakesText a id
    → has_row id rows ≡ false → Settles s (held_text rows id text) (rows ++ text_row id (text ∷ []) ∷ [])
text_settles s a id text rows once found takes none = grind (arith, common_steps)

-- no word is left
ends_now : (s : Shape) (h : Held) (several : Bool) (place : ℕ) (rows : List Row) → Settles s h rows
    → Ends s (before h several place) [] rows
unfolding walk_fault
ends_now s h several place rows settles = grind (arith, common_steps)

-- a plain word waits to be used by the argument of its place
pub ends_after_word : (s : Shape) (h : Held) (rows : List Row) (several : Bool) (place : ℕ) (a : Rule) (x : ℕ) (xs : Text)
    (rest : List Text) (final : List Row)
    → Settles s h rows → (x == 45) ≡ false → arg_by_index s.rules place ≡ Some a → a.trailing_var_arg ≡ false
    → takes_several a ≡ false
    → Ends s (before (held_text rows a.id (x ∷ xs)) (is_multiple a) (next_position a place)) rest final
    → Ends s (before h several place) ((x ∷ xs) ∷ rest) final
ends_after_word s h rows several place a x xs rest final settles plain found stays single ends =
    let alone : (is_pending a h.pending && takes_several a) ≡ false = ap (λ (b : Bool). is_pending a h.pending && b) single
    ∙ and-false _ in
    let goes : positional_held s.rules a (x ∷ xs) h ≡ held_text rows a.id (x ∷ xs) =
    ap (λ (b : Bool). pushed a.id (x ∷ xs) (if b then h else settled s.rules h)) alone ∙ ap (pushed a.id (x ∷ xs)) settles.held in
    ends_after_plain s h several place a x xs rest final plain found stays
    (ap (λ (b : Bool). if b then [] else settle_fault s.rules s.args_override_self h) alone ∙ settles.fits)
    (subst (λ (after : Held). Ends s (before after (is_multiple a) (next_position a place)) rest final) (sym goes) ends)

-- ---- the files of a line

-- plain words for the texts of a line, and then what follows
pub texts_walk : (s : Shape) (ids texts : List Text) (h : Held) (rows : List Row) (place : ℕ) (rest : List Text)
    (final : List Row)
    → s.args_override_self ≡ false → Settles s h rows → AllStand s.rules place ids → are_new (row_ids rows) ids ≡ true
    → length texts ≡ length ids
    → All IsPlainName texts
    → ((after : Held) → Settles s after (rows ++ text_rows ids texts)
    → Ends s (before after false (place_after place ids)) rest final)
    → Ends s (before h false place) (texts ++ rest) final
texts_walk s [] [] h rows place rest final once settles stand new long plain follows =
    follows h (subst (λ (all : List Row). Settles s h all) (sym (append-nil rows)) settles)
texts_walk s [] (text ∷ texts) h rows place rest final once settles stand new long plain follows = absurd (omega (arith, long))
texts_walk s (id ∷ ids) [] h rows place rest final once settles stand new long plain follows = absurd (omega (arith, long))
texts_walk s (id ∷ ids) ([] ∷ texts) h rows place rest final once settles stand new long plain follows = absurd
    (All-head IsPlainName [] texts plain)
texts_walk s (id ∷ ids) ((x ∷ xs) ∷ texts) h rows place rest final once settles stand new long plain follows =
    let a : Rule = text_at place id in
    let row : Row = text_row id ((x ∷ xs) ∷ []) in
    let news = both (is_new (row_ids rows) id) (are_new (row_ids rows ++ id ∷ []) ids) new in
    let names : are_new (row_ids (rows ++ row ∷ [])) ids ≡ true =
    subst (λ (seen : List Text). are_new seen ids ≡ true) (sym (map-append (λ (r : Row). r.id) rows (row ∷ []))) news.1 in
    ends_after_word s h rows false place a x xs (texts ++ rest) final settles
    (ne_eqb x 45 (All-head IsPlainName (x ∷ xs) texts plain)) stand.0.by_index refl refl
    (texts_walk s ids texts (held_text rows id (x ∷ xs)) (rows ++ row ∷ []) (min (place + 1) usize_max) rest final once
    (text_settles s a id (x ∷ xs) rows once stand.0.by_id (takes_text place id) (no_row id rows news.0)) stand.1 names
    (omega (arith, long))
    (All-tail IsPlainName (x ∷ xs) texts plain)
    (λ after settled. follows after
    (subst (λ (all : List Row). Settles s after all) (append_assoc rows (row ∷ []) (text_rows ids texts)) settled)))

-- a configuration file that waits to be used
file_settles : (s : Shape) (place : ℕ) (rows : List Row) (seen : List Text) (last : Text)
    → StandsAt s.rules place (files_at place)
    → has_row (codes "CONFIG") rows ≡ false
    → Settles s (held_text (adds rows seen) (codes "CONFIG") last) (adds rows (seen ++ last ∷ []))
file_settles s place rows seen last stand none = record {
  fits = ap (λ (o : Option Rule). option_map_or (λ a. use_fault s.args_override_self a (last ∷ []) (adds rows seen)) o [])
      stand.by_id;
  held = ap (λ (o : Option Rule). held_rows (used_by_id o (last ∷ []) (adds rows seen))) stand.by_id
      ∙ ap held_rows (one_more_config place rows seen last none);
}

-- the files that are left, after one that waits
files_end : (s : Shape) (place : ℕ) (rows : List Row) → StandsAt s.rules place (files_at place)
    → has_row (codes "CONFIG") rows ≡ false
    → (seen : List Text) (last : Text) (rest : List Text) → All IsPlainName rest
    → Ends s (before (held_text (adds rows seen) (codes "CONFIG") last) true place) rest (adds rows (seen ++ last ∷ rest))
files_end s place rows stand none seen last [] plain = ends_now s _ true place _ (file_settles s place rows seen last stand none)
files_end s place rows stand none seen last ([] ∷ rest) plain = absurd (All-head IsPlainName [] rest plain)
files_end s place rows stand none seen last ((x ∷ xs) ∷ rest) plain =
    ends_after_word s (held_text (adds rows seen) (codes "CONFIG") last) (adds rows (seen ++ last ∷ [])) true place
    (files_at place) x xs rest _
    (file_settles s place rows seen last stand none)
    (ne_eqb x 45 (All-head IsPlainName (x ∷ xs) rest plain)) stand.by_index refl refl
    (subst (λ (all : List Text). Ends s
    (before (held_text (adds rows (seen ++ last ∷ [])) (codes "CONFIG") (x ∷ xs)) true place) rest (adds rows all))
    (append_assoc seen (last ∷ []) ((x ∷ xs) ∷ rest))
    (files_end s place rows stand none (seen ++ last ∷ []) (x ∷ xs) rest (All-tail IsPlainName (x ∷ xs) rest plain)))

-- plain words for the configuration files, if any are taken
pub configs_walk : (s : Shape) (configs : ConfigFiles) (names : List Text) (h : Held) (rows : List Row) (place : ℕ)
    → s.args_override_self ≡ false → Settles s h rows
    → ConfigsStand s.rules place configs → are_new (row_ids rows) (config_ids configs) ≡ true → ArePlainConfigs configs names
    → Ends s (before h false place) names (added configs rows names)
configs_walk s NoConfigs names h rows place once settles stand new plain =
    subst (λ (all : List Text). Ends s (before h false place) all (adds rows all)) (sym plain)
    (ends_now s h false place rows settles)
configs_walk s Several [] h rows place once settles stand new plain = absurd (plain.some refl)
configs_walk s Several ([] ∷ rest) h rows place once settles stand new plain = absurd (All-head IsPlainName [] rest plain.plain)
configs_walk s Several ((x ∷ xs) ∷ rest) h rows place once settles stand new plain =
    let none = no_row (codes "CONFIG") rows (both (is_new (row_ids rows) (codes "CONFIG")) true new).0 in
    ends_after_word s h rows false place (files_at place) x xs rest _ settles
    (ne_eqb x 45 (All-head IsPlainName (x ∷ xs) rest plain.plain)) stand.by_index refl refl
    (files_end s place rows stand none [] (x ∷ xs) rest (All-tail IsPlainName (x ∷ xs) rest plain.plain))
configs_walk s Networks names h rows place once settles stand new plain =
    subst (λ (words : List Text). Ends s (before h false place) words (rows ++ text_rows network_names names)) (append-nil names)
    (texts_walk s network_names names h rows place [] (rows ++ text_rows network_names names) once settles stand new plain.two
    plain.plain (λ after settled. ends_now s after false (place_after place network_names) _ settled))
