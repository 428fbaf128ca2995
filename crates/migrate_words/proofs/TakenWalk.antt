-- Where the command line takes the words, it enters a subcommand other than `help`, which takes the words that are left.
use Rattle.std.proofs.Common.{arith}
use Rattle.std.proofs.lemmas.Grind.{common_steps}
use Rattle.std.proofs.Common.{◌≡◌, ℕ, Bool, cond, true, false, List, [], ◌∷◌, Option, Some, None, refl, sym, true≢false, codes}
use Rattle.std.specs.List.{fold}
use Rattle.std.specs.Option.{is_some, option_map_or}
use Rattle.std.specs.Prelude.{◌&&◌, find, not, option_map}
use Rattle.std.specs.Str.{bytes_eq}
use Rattle.clap.specs.Words.{App, Row, Rule, Shape, Text, built, subcommand_of}
use Rattle.clap.specs.Kinds.{or_else}
use Rattle.clap.specs.Lexer.{long_of}
use Rattle.clap.specs.Walk.{Held, Names, Outcome, Step, Waiting, Walk, after_flag, after_step, answers_to, arg_by_index, done}
use Rattle.clap.specs.Walk.{finished, idle, long_or_other, next, nothing_held, option, plain, plain_word, positional, refused, rows_after}
use Rattle.clap.specs.Walk.{settled, short_or_plain, subcommand, subcommand_met, subcommand_or_other, to_positional, trailing, value, waits, walk}
use Rattle.clap.specs.Walk.{walk_from, walked, walked_from, word_met}
use Rattle.clap.specs.Simple.{entered, label_of, names_of, rows_at}
use Rattle.clap.specs.Faults.{check_fault, defaults_fault, entered_fault, level_fault, other_fault, settle_fault, step_fault, turn_fault, walk_fault}
use Rattle.clap.specs.Faults.{word_fault}
use Rattle.clap.specs.declared.error.kind.ErrorKind.TheVariants as kind
use Rattle.migrate_words.specs.Asked.{AreTaken}
use Rattle.migrate_words.specs.CommandLine.{command_line}
use Rattle.migrate_words.proofs.FullRows.{cons_not_nil, first_none, second_none}

-- ---- the walk stops at no `help`

abbrev IsOther : Text → Type 0
IsOther name = bytes_eq name (codes "help") ≡ false

abbrev StopsAtOther : Option (Text × List Text) → Type 0
StopsAtOther None = Unit {0}
StopsAtOther (Some p) = IsOther p.0

abbrev StepsToOther : Step → Type 0
StepsToOther (subcommand name) = IsOther name
StepsToOther _ = Unit {0}

plain_other : (c : List Rule) (waiting : Waiting) (word : Text) (h : Held) → StepsToOther (plain_word c waiting word h).1
plain_other c idle word h = tt
plain_other c positional word h = tt
plain_other c (option id) word h = tt

flag_other : (c : List Rule) (waiting : Waiting) (word : Text) (h : Held) (outcome : Outcome) → StepsToOther (after_flag c waiting word h outcome).1
flag_other c waiting word h done = tt
flag_other c waiting word h (waits id) = tt
flag_other c waiting word h plain = plain_other c waiting word h
flag_other c waiting word h refused = plain_other c waiting word h

short_other : (c : List Rule) (waiting : Waiting) (word : Text) (flags : Option Text) (h : Held) → StepsToOther (short_or_plain c waiting word flags h).1
short_other c waiting word flags h = grind (arith, common_steps, flag_other, plain_other)

long_other : (c : List Rule) (waiting : Waiting) (word : Text) (p : Option (Text × Option Text)) (h : Held) → StepsToOther (long_or_other c waiting word p h).1
long_other c waiting word p h = grind (arith, common_steps, flag_other, short_other)

word_other : (s : Shape) (names : Names) (is_trailing : Bool) (waiting : Waiting) (place : ℕ) (word : Text) (h : Held) → s.disable_help_subcommand ≡ false
    → word_fault s names is_trailing waiting word h ≡ [] → StepsToOther (word_met s.rules names is_trailing waiting place word h).1
word_other s names true waiting place word h enabled taken = tt
word_other s names false waiting place word h enabled taken = go (subcommand_met names waiting word) taken
  where
    dashes : (b : Bool) → StepsToOther (cond b (h, trailing place) (long_or_other s.rules waiting word (long_of word) h)).1
    dashes true = tt
    dashes false = long_other s.rules waiting word (long_of word) h

    helps : (is_help disabled : Bool) → disabled ≡ false → cond (is_help && not disabled) (kind.DisplayHelp ∷ kind.InvalidSubcommand ∷ []) [] ≡ []
        → is_help ≡ false
    helps false disabled enabled e = refl
    helps true false enabled e = absurd (cons_not_nil _ _ e)
    helps true true enabled e = absurd (true≢false enabled)

    go : (met : Option Text) → other_fault s met word h ≡ [] → StepsToOther (subcommand_or_other s.rules met waiting place word h).1
    go None e = dashes (bytes_eq word (45 ∷ 45 ∷ []))
    go (Some name) e = helps (bytes_eq name (codes "help")) s.disable_help_subcommand enabled e

step_other : (c : List Rule) (word : Text) (w : Walk) (h : Held) (step : Step) → StepsToOther step → StopsAtOther w.stopped
    → StopsAtOther (after_step c word w h step).stopped
step_other c word w h (next waiting) steps stops = stops
step_other c word w h (trailing place) steps stops = stops
step_other c word w h (subcommand name) steps stops = steps
step_other c word w h value steps stops = go (arg_by_index c w.position)
  where
    go : (found : Option Rule) → StopsAtOther (to_positional c found word w h).stopped
    go None = stops
    go (Some a) = tt

walked_other : (s : Shape) (names : Names) (w : Walk) (word : Text) → s.disable_help_subcommand ≡ false → turn_fault s names w word ≡ []
    → StopsAtOther w.stopped
    → StopsAtOther (walked s.rules names w word).stopped
unfolding walked
walked_other s names w word enabled taken stops = go w.stopped taken stops
  where
    met : Held × Step
    met = word_met s.rules names w.is_trailing w.waiting w.position word w.held

    go : (stopped : Option (Text × List Text))
        → cond (is_some stopped) [] (or_else (word_fault s names w.is_trailing w.waiting word w.held) (step_fault s w.position met.0 met.1)) ≡ []
        → StopsAtOther stopped → StopsAtOther (walked_from s.rules names stopped w word).stopped
    go (Some p) e other = other
    go None e other =
        step_other s.rules word w met.0 met.1
        (word_other s names w.is_trailing w.waiting w.position word w.held enabled
        (first_none (word_fault s names w.is_trailing w.waiting word w.held) _ e)) stops

walk_other : (s : Shape) (names : Names) (words : List Text) (w : Walk) → s.disable_help_subcommand ≡ false → walk_fault s names w words ≡ []
    → StopsAtOther w.stopped
    → StopsAtOther (fold (walked s.rules names) w words).stopped
unfolding walk_fault
walk_other s names [] w enabled taken stops = stops
walk_other s names (word ∷ rest) w enabled taken stops =
    walk_other s names rest (walked s.rules names w word) enabled (second_none (turn_fault s names w word) _ taken)
    (walked_other s names w word enabled (first_none (turn_fault s names w word) _ taken) stops)

-- ---- the subcommand that is entered

-- a subcommand was found that isn't `help`, takes the words that are left, and comes to these rows
pub record FindsLine (a : App) (met : Option (Text × List Row)) : Type 0 where
  pub name : Text
  pub rest : List Text
  pub line : Shape
  pub other : bytes_eq name (codes "help") ≡ false
  pub found : find (λ s. answers_to name (label_of s)) a.subs ≡ Some line
  pub taken : level_fault line [] nothing_held rest false [] ≡ []
  pub rows : met ≡ Some (line.name, rows_after line.rules [] rest)

finds_line : (a : App) (stop : Option (Text × List Text)) → StopsAtOther stop → is_some (entered a stop) ≡ true → entered_fault a stop ≡ []
    → FindsLine a (entered a stop)
finds_line a None stops has taken = absurd (true≢false (sym has))
finds_line a (Some p) stops has taken = go (find (λ s. answers_to p.0 (label_of s)) a.subs) refl has taken
  where
    go : (o : Option Shape) → find (λ s. answers_to p.0 (label_of s)) a.subs ≡ o → is_some (option_map (λ s. rows_at s p.1) o) ≡ true
        → option_map_or (λ s. level_fault s [] nothing_held p.1 false []) o [] ≡ [] → FindsLine a (option_map (λ s. rows_at s p.1) o)
    go None found has e = absurd (true≢false (sym has))
    go (Some line) found has e = record { name = p.0; rest = p.1; line = line; other = stops; found = found; taken = e; rows = refl }

-- a required subcommand is there
has_subcommand : (rows : List Row) (has : Bool) → check_fault (built command_line).top rows has ≡ [] → has ≡ true
unfolding command_line
has_subcommand rows has e = grind (arith, common_steps, cons_not_nil)

pub line_of_taken : (words : List Text) → AreTaken words → FindsLine (built command_line) (subcommand_of command_line words)
unfolding command_line
line_of_taken words taken =
    let a : App = built command_line in
    let end : Walk = walk a.top.rules (names_of a) nothing_held words in
    let walks = first_none (walk_fault a.top (names_of a) (walk_from nothing_held) words) _ taken in
    let below = second_none (walk_fault a.top (names_of a) (walk_from nothing_held) words) _ taken in
    let settles = second_none (entered_fault a end.stopped) _ below in
    let fills = second_none (settle_fault a.top.rules a.top.args_override_self end.held) _ settles in
    let checks = second_none (defaults_fault (settled a.top.rules end.held).rows a.top.rules) _ fills in
    finds_line a end.stopped (walk_other a.top (names_of a) words (walk_from nothing_held) refl walks tt)
    (has_subcommand (finished a.top.rules end.held) (is_some (entered a end.stopped)) checks) (first_none (entered_fault a end.stopped) _ below)
