-- The rows that plain words come to, and where the arguments of a line stand.
use Rattle.std.proofs.lemmas.Grind.{common_steps}
use Rattle.std.proofs.Common.{◌≡◌, ◌∙◌, ℕ, ◌+◌, ◌<◌, ◌≤◌, Bool, cond, true, false, List, [], ◌∷◌, ◌++◌, Option, Some, None}
use Rattle.std.proofs.Common.{length, map, min, refl, sym, ap}
use Rattle.std.proofs.Common.{subst, append-nil, append_assoc, arith, codes, eq-eqb, true≢false}
use Rattle.std.proofs.lemmas.Bool.{ne_eqb, not-true}
use Rattle.std.proofs.lemmas.List.{map-append}
use Rattle.std.proofs.lemmas.List.Folds.{find-append}
use Rattle.std.proofs.lemmas.Slice.Eq.{bytes_eq-Decides}
use Rattle.std.specs.List.{find, list_any}
use Rattle.std.specs.Option.{option_map_or, option_or}
use Rattle.std.specs.Prelude.{◌==◌, ◌&&◌, ◌||◌, if◌then◌else◌, not}
use Rattle.std.specs.Str.{bytes_eq}
use Rattle.clap.proofs.WalkLemmas.{both, list_any-map}
use Rattle.clap.specs.Lexer.{usize_max}
use Rattle.clap.specs.Words.{Row, Rule, Text}
use Rattle.clap.specs.Walk.{arg_by_id, arg_by_index, at_row, has_row, more_values, used}
use Rattle.clap.specs.Simple.{filled, filled_from, with_index}
use Rattle.clap.specs.Kinds.{or_else}
use Rattle.clap.specs.Faults.{use_fault}
use Rattle.clap.specs.declared.error.kind.ErrorKind.TheVariants as kind
use Rattle.clap.specs.declared.builder.value_parser.Reading.TheVariants.{AsWritten}
use Rattle.clap.specs.declared.parser.matches.ValueSource.TheVariants.{CommandLine}
use Rattle.migrate_words.specs.CommandLine.{area_option, budget_option, config_files, config_rules, level_option, one_text}
use Rattle.migrate_words.specs.Usages.{network_names}
use Rattle.migrate_words.specs.declared.subcommands.ConfigFiles.{ConfigFiles}
use Rattle.migrate_words.specs.declared.subcommands.ConfigFiles.TheVariants.{NoConfigs, Several, Networks}
use Rattle.migrate_words.proofs.RowFacts.{find_none}

-- ---- names

-- the name is none of these
abbrev pub is_new : List Text → Text → Bool
is_new seen id = not (list_any (λ name. bytes_eq name id) seen)

-- each of these names is new after those before it
abbrev pub are_new : List Text → List Text → Bool
are_new seen [] = true
are_new seen (id ∷ ids) = is_new seen id && are_new (seen ++ id ∷ []) ids

-- the names of some rows
abbrev pub row_ids : List Row → List Text
row_ids rows = map (λ r. r.id) rows

pub no_row : (id : Text) (rows : List Row) → is_new (row_ids rows) id ≡ true → has_row id rows ≡ false
no_row id rows new = list_any-map (λ name. bytes_eq name id) (λ (r : Row). r.id) rows ∙ not-true _ new

-- ---- rows

-- the row of a text, and rows of texts
abbrev pub text_row : Text → List Text → Row
text_row id values = record { id = id; values = values; count = None; source = Some CommandLine; reading = AsWritten }

abbrev pub text_rows : List Text → List Text → List Row
text_rows [] texts = []
text_rows (id ∷ ids) [] = []
text_rows (id ∷ ids) (text ∷ texts) = text_row id (text ∷ []) ∷ text_rows ids texts

-- rows of other names stay
pub at_row_behind : (id : Text) (change : Row → List Row) (missing rows more : List Row) → has_row id rows ≡ false
    → at_row id change missing (rows ++ more) ≡ rows ++ at_row id change missing more
at_row_behind id change missing [] more none = refl
at_row_behind id change missing (r ∷ rs) more none = go (at_row_behind id change missing rs more) (bytes_eq r.id id) none
  where
    go : (has_row id rs ≡ false → at_row id change missing (rs ++ more) ≡ rs ++ at_row id change missing more) → (b : Bool)
        → (b || has_row id rs) ≡ false
        → cond b (change r ++ (rs ++ more)) (r ∷ at_row id change missing (rs ++ more)) ≡ r ∷ rs ++ at_row id change missing more
    go later true e = absurd (true≢false e)
    go later false e = ap (λ (rows : List Row). r ∷ rows) (later e)

at_no_row : (id : Text) (change : Row → List Row) (missing rows : List Row) → has_row id rows ≡ false
    → at_row id change missing rows ≡ rows ++ missing
at_no_row id change missing rows none = ap (at_row id change missing) (sym (append-nil rows))
    ∙ at_row_behind id change missing rows [] none

-- ---- uses

-- an argument of this name takes one text
pub record TakesText (a : Rule) (id : Text) : Type 0 where
  pub named : a.id ≡ id
  pub used : (text : Text) (rows : List Row) → has_row id rows ≡ false
      → used a (text ∷ []) rows ≡ rows ++ text_row id (text ∷ []) ∷ []
  pub fits : (text : Text) (rows : List Row) → has_row id rows ≡ false → use_fault false a (text ∷ []) rows ≡ []

set_used : (id text : Text) (rows : List Row) → has_row id rows ≡ false
    → at_row id (more_values CommandLine (text ∷ [])) (text_row id (text ∷ []) ∷ [])
    (at_row id (λ _. []) [] rows) ≡ rows ++ text_row id (text ∷ []) ∷ []
set_used id text rows none =
    ap (at_row id (more_values CommandLine (text ∷ [])) (text_row id (text ∷ []) ∷ []))
    (at_no_row id (λ _. []) [] rows none ∙ append-nil rows)
    ∙ at_no_row id (more_values CommandLine (text ∷ [])) (text_row id (text ∷ []) ∷ []) rows none

set_fits : (has : Bool) → has ≡ false → or_else (if has && true then kind.ArgumentConflict ∷ [] else []) [] ≡ []
set_fits has none = ap (λ (b : Bool). or_else (if b && true then kind.ArgumentConflict ∷ [] else []) []) none

abbrev pub text_at : ℕ → Text → Rule
text_at place id = with_index place (filled (one_text id))

pub takes_text : (place : ℕ) (id : Text) → TakesText (text_at place id) id
takes_text place id = grind (arith, common_steps, set_fits, set_used)

pub takes_budget : (place : ℕ) → TakesText (with_index place (filled budget_option)) (codes "N")
takes_budget place = grind (arith, common_steps, set_fits, set_used)

pub takes_area : (place : ℕ) → TakesText (with_index place (filled area_option)) (codes "AREA")
takes_area place = grind (arith, common_steps, set_fits, set_used)

pub takes_level : (place : ℕ) → TakesText (with_index place (filled level_option)) (codes "L")
takes_level place = grind (arith, common_steps, set_fits, set_used)

-- the built argument of the configuration files, at its place
abbrev pub files_at : ℕ → Rule
files_at place = with_index place (filled config_files)

-- the rows with that of these configuration files, if there are any
abbrev pub adds : List Row → List Text → List Row
adds rows [] = rows
adds rows (v ∷ vs) = rows ++ text_row (codes "CONFIG") (v ∷ vs) ∷ []

-- the rows with those of the configuration files of a command
abbrev pub added : ConfigFiles → List Row → List Text → List Row
added NoConfigs rows names = adds rows names
added Several rows names = adds rows names
added Networks rows names = rows ++ text_rows network_names names

-- one more file
pub one_more_config : (place : ℕ) (rows : List Row) (seen : List Text) (v : Text) → has_row (codes "CONFIG") rows ≡ false
    → used (files_at place) (v ∷ []) (adds rows seen) ≡ adds rows (seen ++ v ∷ [])
one_more_config place rows seen v none = grind (arith, common_steps, at_no_row, at_row_behind)

-- ---- places

-- an index is below this place, and so are those of some arguments
abbrev pub IsUnder : ℕ → Option ℕ → Type 0
IsUnder place None = Unit {0}
IsUnder place (Some i) = i < place

abbrev pub AreUnder : ℕ → List Rule → Type 0
AreUnder place [] = Unit {0}
AreUnder place (a ∷ rest) = IsUnder place a.index × AreUnder place rest

-- the names of some arguments
abbrev pub rule_ids : List Rule → List Text
rule_ids rules = map (λ a. a.id) rules

none_under : (place : ℕ) (rules : List Rule) → AreUnder place rules
    → find (λ a. option_map_or (λ k. k == place) a.index false) rules ≡ None
none_under place [] under = refl
none_under place (a ∷ rest) under = go (none_under place rest under.1) a.index under.0
  where
    go : (find (λ b. option_map_or (λ k. k == place) b.index false) rest ≡ None) → (index : Option ℕ) → IsUnder place index
        → cond (option_map_or (λ k. k == place) index false) (Some a)
        (find (λ b. option_map_or (λ k. k == place) b.index false) rest) ≡ None
    go later None below = later
    go later (Some i) below = ap (λ (b : Bool). cond b (Some a) (find (λ r. option_map_or (λ k. k == place) r.index false) rest))
        (ne_eqb i place (λ e. omega (arith, below, e))) ∙ later

under_more : (place more : ℕ) (rules : List Rule) → place ≤ more → AreUnder place rules → AreUnder more rules
under_more place more [] less under = tt
under_more place more (a ∷ rest) less under = (go a.index under.0, under_more place more rest less under.1)
  where
    go : (index : Option ℕ) → IsUnder place index → IsUnder more index
    go None below = tt
    go (Some i) below = omega (arith, below, less)

under_append : (place : ℕ) (rules : List Rule) (a : Rule) → AreUnder place rules → IsUnder place a.index
    → AreUnder place (rules ++ a ∷ [])
under_append place [] a under last = (last, tt)
under_append place (b ∷ rest) a under last = (under.0, under_append place rest a under.1 last)

none_named : (id : Text) (rules : List Rule) → is_new (rule_ids rules) id ≡ true → find (λ a. bytes_eq a.id id) rules ≡ None
none_named id rules new =
    find_none (λ a. bytes_eq a.id id) rules (list_any-map (λ name. bytes_eq name id) (λ (a : Rule). a.id) rules ∙ not-true _ new)

-- an argument stands at its place among the arguments of a line, and is found by its name
pub record StandsAt (rules : List Rule) (place : ℕ) (a : Rule) : Type 0 where
  pub by_index : arg_by_index rules place ≡ Some a
  pub by_id : arg_by_id rules a.id ≡ Some a

stands_at : (rules before after : List Rule) (place : ℕ) (a : Rule) → rules ≡ before ++ a ∷ after → a.index ≡ Some place
    → AreUnder place before
    → is_new (rule_ids before) a.id ≡ true → StandsAt rules place a
stands_at rules before after place a are index under new = record {
  by_index = ap (find at) are ∙ find-append at before (a ∷ after)
      ∙ ap (λ (o : Option Rule). option_or o (find at (a ∷ after))) (none_under place before under)
      ∙ ap (λ (i : Option ℕ). cond (option_map_or (λ k. k == place) i false) (Some a) (find at after)) index
      ∙ ap (λ (b : Bool). cond b (Some a) (find at after)) (eq-eqb place place refl);
  by_id = ap (find named) are ∙ find-append named before (a ∷ after)
      ∙ ap (λ (o : Option Rule). option_or o (find named (a ∷ after))) (none_named a.id before new)
      ∙ ap (λ (b : Bool). cond b (Some a) (find named after)) ((bytes_eq-Decides a.id a.id).1 refl);
}
  where
    at : Rule → Bool
    at r = option_map_or (λ k. k == place) r.index false

    named : Rule → Bool
    named r = bytes_eq r.id a.id

-- ---- the texts of a line

abbrev pub place_after : ℕ → List Text → ℕ
place_after place [] = place
place_after place (id ∷ ids) = place_after (min (place + 1) usize_max) ids

pub place_below : (place : ℕ) (ids : List Text) → place_after place ids ≤ place + length ids
place_below place [] = omega arith
place_below place (id ∷ ids) =
    let rest = place_below (min (place + 1) usize_max) ids in
    let next : min (place + 1) usize_max ≤ place + 1 = omega arith in
    omega (arith, rest, next)

-- the arguments of these names stand at their places
abbrev pub AllStand : List Rule → ℕ → List Text → Type 0
AllStand rules place [] = Unit {0}
AllStand rules place (id ∷ ids) = StandsAt rules place (text_at place id) × AllStand rules (min (place + 1) usize_max) ids

-- behind arguments with these names others stand from this place on
pub record Behind (rules : List Rule) (place : ℕ) (seen : List Text) (others : List Rule) : Type 0 where
  pub front : List Rule
  pub rules_are : rules ≡ front ++ filled_from place others
  pub under : AreUnder place front
  pub names : rule_ids front ≡ seen

-- the texts of a line stand at their places, and the other arguments behind them
pub texts_stand : (rules : List Rule) (ids seen : List Text) (place : ℕ) (others : List Rule)
    → Behind rules place seen (map one_text ids ++ others)
    → are_new seen ids ≡ true → place + length ids < 1000
    → AllStand rules place ids × Behind rules (place_after place ids) (seen ++ ids) others
texts_stand rules [] seen place others behind new few = (
  tt,
  record {
    front = behind.front;
    rules_are = behind.rules_are;
    under = behind.under;
    names = behind.names
        ∙ sym (append-nil seen);
  },
)
texts_stand rules (id ∷ ids) seen place others behind new few =
    let a : Rule = text_at place id in
    let more : ℕ = min (place + 1) usize_max in
    let above : place < more = omega (arith, few) in
    let news = both (is_new seen id) (are_new (seen ++ id ∷ []) ids) new in
    let first = stands_at rules behind.front
    (filled_from more (map one_text ids ++ others)) place a behind.rules_are refl behind.under
    (subst (λ (names : List Text). is_new names id ≡ true) (sym behind.names) news.0) in
    let rest = texts_stand rules ids (seen ++ id ∷ []) more others (record {
      front = behind.front ++ a ∷ [];
      rules_are = behind.rules_are ∙ sym (append_assoc behind.front (a ∷ []) (filled_from more (map one_text ids ++ others)));
      under = under_append more behind.front a (under_more place more behind.front (omega (arith, above)) behind.under) above;
      names = map-append (λ (r : Rule). r.id) behind.front (a ∷ []) ∙ ap (λ (names : List Text). names ++ id ∷ []) behind.names;
    }) news.1 (omega (arith, few)) in (
      (first, rest.0),
      subst (λ (names : List Text). Behind rules (place_after more ids) names others) (append_assoc seen (id ∷ []) ids) rest.1,
    )

-- where configuration files come next, they stand there
abbrev pub ConfigsStand : List Rule → ℕ → ConfigFiles → Type 0
ConfigsStand rules place NoConfigs = Unit {0}
ConfigsStand rules place Several = StandsAt rules place (files_at place)
ConfigsStand rules place Networks = AllStand rules place network_names

abbrev pub config_ids : ConfigFiles → List Text
config_ids NoConfigs = []
config_ids Several = codes "CONFIG" ∷ []
config_ids Networks = network_names

pub configs_stand : (rules : List Rule) (seen : List Text) (place : ℕ) (configs : ConfigFiles) (others : List Rule) → place < 990
    → Behind rules place seen (config_rules configs ++ others)
    → are_new seen (config_ids configs) ≡ true → ConfigsStand rules place configs
configs_stand rules seen place Several others few behind new =
    stands_at rules behind.front (filled_from (min (place + 1) usize_max) others) place
    (files_at place) behind.rules_are refl behind.under
    (subst (λ (names : List Text). is_new names (codes "CONFIG") ≡ true) (sym behind.names)
    (both (is_new seen (codes "CONFIG")) true new).0)
configs_stand rules seen place NoConfigs others few behind new = tt
configs_stand rules seen place Networks others few behind new =
    (texts_stand rules network_names seen place others behind new (omega (arith, few))).0

-- names that are new one after another
pub are_new_append : (seen ids more : List Text) → are_new seen (ids ++ more) ≡ true
    → (are_new seen ids ≡ true) × (are_new (seen ++ ids) more ≡ true)
are_new_append seen [] more new = (refl, subst (λ (names : List Text). are_new names more ≡ true) (sym (append-nil seen)) new)
are_new_append seen (id ∷ ids) more new =
    let news = both (is_new seen id) (are_new (seen ++ id ∷ []) (ids ++ more)) new in
    let rest = are_new_append (seen ++ id ∷ []) ids more news.1 in (
      ap (λ (b : Bool). b && are_new (seen ++ id ∷ []) ids) news.0 ∙ rest.0,
      subst (λ (names : List Text). are_new names more ≡ true) (append_assoc seen (id ∷ []) ids) rest.1,
    )
