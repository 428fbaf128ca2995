-- Each row that the parse of a subcommand comes to has a value.
use Rattle.std.proofs.lemmas.Grind.{common_steps}
use Rattle.std.proofs.Common.{◌≡◌, ℕ, zero, suc, Bool, cond, true, false, List, [], ◌∷◌, ◌++◌, Option, Some, None, length, refl, sym, ap, subst}
use Rattle.std.proofs.Common.{arith, true≢false}
use Rattle.std.specs.List.{find, fold}
use Rattle.std.specs.Option.{is_some, option_map_or}
use Rattle.std.specs.Prelude.{◌&&◌, drop, encode_utf8, slice_get}
use Rattle.std.specs.Str.{bytes_eq, chars}
use Rattle.clap.specs.Words.{Kinds, Row, Rule, Shape, Text}
use Rattle.clap.specs.Kinds.{or_else}
use Rattle.clap.specs.Lexer.{long_of, short_of}
use Rattle.clap.specs.Walk.{Held, Outcome, Step, Waiting, Walk, after_flag, after_step, arg_by_id, arg_by_index, arg_by_long, arg_by_short}
use Rattle.clap.specs.Walk.{at_row, attached_value, bundle, bundle_met, bundle_step, default_rows, done, flag_met, has_row, idle, is_pending}
use Rattle.clap.specs.Walk.{long_met, long_or_other, next, nothing_held, option, option_met, option_word, plain, plain_word, positional}
use Rattle.clap.specs.Walk.{reacted, reading_by, refused, rows_after, settled, settled_rows, short_met, short_or_plain, subcommand}
use Rattle.clap.specs.Walk.{subcommand_or_other, takes_several, takes_values, to_positional, trailing, used, used_as, used_by_id, value, waits}
use Rattle.clap.specs.Walk.{walked, walked_from, with_default, with_values, word_met}
use Rattle.clap.specs.Faults.{bundle_fault, bundle_step_fault, flag_word_fault, flags_fault, level_fault, long_fault, option_fault, other_fault}
use Rattle.clap.specs.Faults.{positional_fault, react_fault, settle_fault, short_fault, step_fault, stray_fault, turn_fault, use_fault, walk_fault}
use Rattle.clap.specs.Faults.{word_fault}
use Rattle.clap.specs.declared.builder.action.ArgAction.{ArgAction}
use Rattle.clap.specs.declared.builder.value_parser.Reading.{Reading}
use Rattle.clap.specs.declared.error.kind.ErrorKind.TheVariants as kind
use Rattle.clap.specs.declared.parser.matches.ValueSource.{ValueSource}
use Rattle.clap.specs.declared.parser.matches.ValueSource.TheVariants.{DefaultValue}
use Rattle.migrate_words.proofs.RowFacts.{some_is}

-- ---- lists and kinds of faults

abbrev pub HasSome : {X : Type 0} → List X → Type 0
HasSome [] = ⊥
HasSome (x ∷ xs) = Unit {0}

some_after : {X : Type 0} (xs : List X) (y : X) (ys : List X) → HasSome (xs ++ y ∷ ys)
some_after [] y ys = tt
some_after (x ∷ xs) y ys = tt

pub cons_not_nil : {X : Type 0} (x : X) (xs : List X) → x ∷ xs ≡ [] → ⊥
cons_not_nil x xs e = let none : length (x ∷ xs) ≡ 0 = ap length e in absurd (omega arith)

-- no fault of two steps is no fault of either
pub first_none : (first second : Kinds) → or_else first second ≡ [] → first ≡ []
first_none first second e = grind (arith, common_steps)

pub second_none : (first second : Kinds) → or_else first second ≡ [] → second ≡ []
second_none first second e = grind (arith, common_steps, cons_not_nil)

-- ---- rows

abbrev pub Full : List Row → Type 0
Full [] = Unit {0}
Full (r ∷ rs) = HasSome r.values × Full rs

full_append : (rows more : List Row) → Full rows → Full more → Full (rows ++ more)
full_append [] more full fuller = fuller
full_append (r ∷ rs) more full fuller = (full.0, full_append rs more full.1 fuller)

full_at_row : (id : Text) (change : Row → List Row) (missing rows : List Row) → ((r : Row) → HasSome r.values → Full (change r)) → Full missing → Full rows
    → Full (at_row id change missing rows)
full_at_row id change missing [] changes made full = made
full_at_row id change missing (r ∷ rs) changes made full = go (bytes_eq r.id id) (full_at_row id change missing rs changes made full.1)
  where
    go : (b : Bool) → Full (at_row id change missing rs) → Full (cond b (change r ++ rs) (r ∷ at_row id change missing rs))
    go true rest = full_append (change r) rs (changes r full.0) full.1
    go false rest = (full.0, rest)

full_with_values : (id : Text) (how : Reading) (source : ValueSource) (v : Text) (vs : List Text) (rows : List Row) → Full rows
    → Full (with_values id how source (v ∷ vs) rows)
full_with_values id how source v vs rows full = grind (arith, common_steps, full_at_row, some_after)

full_without : (id : Text) (rows : List Row) → Full rows → Full (at_row id (λ _. []) [] rows)
full_without id rows full = full_at_row id (λ _. []) [] rows (λ r has. tt) tt full

full_used_as : (action : ArgAction) (id : Text) (how : Reading) (v : Text) (vs : List Text) (rows : List Row) → Full rows
    → Full (used_as action id how (v ∷ vs) rows)
full_used_as action id how v vs rows full = grind (arith, common_steps, full_with_values, full_without)

full_default : (rows : List Row) (a : Rule) → Full rows → Full (with_default rows a)
full_default rows a full = go (has_row a.id rows) a.defaults
  where
    go : (b : Bool) (values : List Text) → Full (cond b rows (default_rows a.id (reading_by a) values rows))
    go true values = full
    go false [] = full
    go false (v ∷ vs) = full_with_values a.id (reading_by a) DefaultValue v vs rows full

pub full_defaults : (rules : List Rule) (rows : List Row) → Full rows → Full (fold with_default rows rules)
full_defaults [] rows full = full
full_defaults (a ∷ rest) rows full = full_defaults rest (with_default rows a) (full_default rows a full)

-- ---- arguments that can't be used with no value

abbrev pub WantsValue : Rule → Type 0
WantsValue a = (again : Bool) (rows : List Row) → use_fault again a [] rows ≡ [] → ⊥

abbrev pub AllWant : List Rule → Type 0
AllWant [] = Unit {0}
AllWant (a ∷ rest) = WantsValue a × AllWant rest

found_wants : (test : Rule → Bool) (rules : List Rule) (a : Rule) → AllWant rules → find test rules ≡ Some a → WantsValue a
found_wants test [] a all found = absurd (true≢false (sym (ap is_some found)))
found_wants test (r ∷ rest) a all found = go (found_wants test rest a all.1) (test r) found
  where
    go : (find test rest ≡ Some a → WantsValue a) → (b : Bool) → cond b (Some r) (find test rest) ≡ Some a → WantsValue a
    go later true e = subst WantsValue (some_is r a e) all.0
    go later false e = later e

full_used : (again : Bool) (a : Rule) (values : List Text) (rows : List Row) → WantsValue a → use_fault again a values rows ≡ [] → Full rows
    → Full (used a values rows)
full_used again a values rows wants taken full = grind (arith, common_steps, full_used_as)

-- ---- the walk

full_settled : (c : List Rule) (again : Bool) (h : Held) → AllWant c → settle_fault c again h ≡ [] → Full h.rows → Full (settled c h).rows
full_settled c again h all taken full = go h.pending taken
  where
    used_or_not : (p : Text × List Text) (found : Option Rule) → ((a : Rule) → found ≡ Some a → WantsValue a)
        → option_map_or (λ a. use_fault again a p.1 h.rows) found [] ≡ [] → Full (used_by_id found p.1 h.rows)
    used_or_not p None wants e = full
    used_or_not p (Some a) wants e = full_used again a p.1 h.rows (wants a refl) e full

    go : (pending : Option (Text × List Text)) → option_map_or (λ p. option_map_or (λ a. use_fault again a p.1 h.rows) (arg_by_id c p.0) []) pending [] ≡ []
        → Full (settled_rows c pending h.rows)
    go None e = full
    go (Some p) e = used_or_not p (arg_by_id c p.0) (λ a found. found_wants _ c a all found) e

full_reacted : (c : List Rule) (again : Bool) (a : Rule) (values : List Text) (h : Held) → AllWant c → WantsValue a
    → react_fault c again a values h ≡ [] → Full h.rows
    → Full (reacted c a values h).rows
full_reacted c again a values h all wants taken full =
    grind (arith, common_steps, first_none, full_settled, full_used, second_none)

full_option : (c : List Rule) (again : Bool) (a : Rule) (v : Option Text) (h : Held) → AllWant c → WantsValue a → option_fault c again a v h ≡ [] → Full h.rows
    → Full (option_met c a v h).0.rows
full_option c again a None h all wants taken full = full_settled c again h all taken full
full_option c again a (Some v) h all wants taken full = full_reacted c again a (v ∷ []) h all wants taken full

full_long : (c : List Rule) (again : Bool) (found : Option Rule) (v : Option Text) (h : Held) → AllWant c → ((a : Rule) → found ≡ Some a → WantsValue a)
    → long_fault c again found v h ≡ [] → Full h.rows → Full (long_met c found v h).0.rows
full_long c again None v h all wants taken full = full
full_long c again (Some a) v h all wants taken full = go (takes_values a) v taken
  where
    go : (b : Bool) (v : Option Text) → cond b (option_fault c again a v h) (cond (is_some v) (kind.TooManyValues ∷ []) (react_fault c again a [] h)) ≡ []
        → Full (cond b (option_met c a v h) (flag_met c a v h)).0.rows
    go true v e = full_option c again a v h all (wants a refl) e full
    go false None e = full_reacted c again a [] h all (wants a refl) e full
    go false (Some v) e = full

full_short : (c : List Rule) (again : Bool) (found : Option Rule) (rest : Text) (h : Held) (met : Held → Held × Outcome) (fault : Held → Kinds) → AllWant c
    → ((a : Rule) → found ≡ Some a → WantsValue a) → ((after : Held) → fault after ≡ [] → Full after.rows → Full (met after).0.rows)
    → short_fault c again found rest h fault ≡ [] → Full h.rows → Full (short_met c found rest h met).0.rows
full_short c again None rest h met fault all wants others taken full = full
full_short c again (Some a) rest h met fault all wants others taken full = go (takes_values a) taken
  where
    go : (b : Bool) → cond b (option_fault c again a (attached_value rest) h) (or_else (react_fault c again a [] h) (fault (reacted c a [] h))) ≡ []
        → Full (cond b (option_met c a (attached_value rest) h) (met (reacted c a [] h))).0.rows
    go true e = full_option c again a (attached_value rest) h all (wants a refl) e full
    go false e =
        others (reacted c a [] h) (second_none (react_fault c again a [] h) _ e)
        (full_reacted c again a [] h all (wants a refl) (first_none (react_fault c again a [] h) _ e) full)

full_bundle : (c : List Rule) (again : Bool) → AllWant c → (k : ℕ) (flags : Text) (skip : ℕ) (so_far : Outcome) (h : Held)
    → flags_fault c again k flags skip h ≡ []
    → Full h.rows → Full (bundle_met c k flags skip so_far h).0.rows
unfolding bundle_met flags_fault
full_bundle c again all zero flags skip so_far h taken full = full
full_bundle c again all (suc k) flags skip so_far h taken full = go (full_bundle c again all k) (slice_get (chars flags) 0) skip taken
  where
    go : ((flags : Text) (skip : ℕ) (so_far : Outcome) (h : Held) → flags_fault c again k flags skip h ≡ [] → Full h.rows
        → Full (bundle_met c k flags skip so_far h).0.rows)
        → (x : Option ℕ) (skip : ℕ) → bundle_step_fault c again x flags skip h (flags_fault c again k) ≡ []
        → Full (bundle_step c x flags skip so_far h (bundle_met c k)).0.rows
    go rec None skip e = full
    go rec (Some x) zero e =
        let rest = drop (length (encode_utf8 x)) flags in
        full_short c again (arg_by_short c x) rest h (bundle_met c k rest 0 done) (flags_fault c again k rest 0) all (λ a found. found_wants _ c a all found)
        (λ after. rec rest 0 done after) e full
    go rec (Some x) (suc skip) e = rec (drop (length (encode_utf8 x)) flags) skip so_far h e full

full_plain_word : (c : List Rule) (waiting : Waiting) (word : Text) (h : Held) → Full h.rows → Full (plain_word c waiting word h).0.rows
full_plain_word c idle word h full = full
full_plain_word c positional word h full = full
full_plain_word c (option id) word h full = go (arg_by_id c id)
  where
    go : (found : Option Rule) → Full (option_word found id word h).0.rows
    go None = full
    go (Some a) = full

full_after_flag : (c : List Rule) (waiting : Waiting) (word : Text) (h : Held) (outcome : Outcome) → Full h.rows
    → Full (after_flag c waiting word h outcome).0.rows
full_after_flag c waiting word h done full = full
full_after_flag c waiting word h (waits id) full = full
full_after_flag c waiting word h plain full = full_plain_word c waiting word h full
full_after_flag c waiting word h refused full = full_plain_word c waiting word h full

full_other : (s : Shape) (waiting : Waiting) (place : ℕ) (word : Text) (h : Held) → AllWant s.rules → other_fault s None word h ≡ [] → Full h.rows
    → Full (subcommand_or_other s.rules None waiting place word h).0.rows
full_other s waiting place word h all taken full = dashes (bytes_eq word (45 ∷ 45 ∷ [])) taken
  where
    short : (flags : Option Text) → option_map_or (λ fs. bundle_fault s.rules s.args_override_self fs h) flags [] ≡ []
        → Full (short_or_plain s.rules waiting word flags h).0.rows
    short None e = full_plain_word s.rules waiting word h full
    short (Some flags) e =
        full_after_flag s.rules waiting word _ (bundle s.rules flags h).1
        (full_bundle s.rules s.args_override_self all (length flags) flags h.skip plain (record h { skip = 0 }) e full)

    long : (p : Option (Text × Option Text)) → flag_word_fault s.rules s.args_override_self p word h ≡ []
        → Full (long_or_other s.rules waiting word p h).0.rows
    long None e = short (short_of word) e
    long (Some p) e =
        full_after_flag s.rules waiting word _ (long_met s.rules (arg_by_long s.rules p.0) p.1 h).1
        (full_long s.rules s.args_override_self (arg_by_long s.rules p.0) p.1 h all (λ a found. found_wants _ s.rules a all found) e full)

    dashes : (b : Bool) → cond b [] (flag_word_fault s.rules s.args_override_self (long_of word) word h) ≡ []
        → Full (cond b (h, trailing place) (long_or_other s.rules waiting word (long_of word) h)).0.rows
    dashes true e = full
    dashes false e = long (long_of word) e

full_word : (s : Shape) (is_trailing : Bool) (waiting : Waiting) (place : ℕ) (word : Text) (h : Held) → AllWant s.rules
    → word_fault s [] is_trailing waiting word h ≡ [] → Full h.rows → Full (word_met s.rules [] is_trailing waiting place word h).0.rows
full_word s true waiting place word h all taken full = full
full_word s false idle place word h all taken full = full_other s idle place word h all taken full
full_word s false positional place word h all taken full = full_other s positional place word h all taken full
full_word s false (option id) place word h all taken full = full_other s (option id) place word h all taken full

full_step : (s : Shape) (word : Text) (w : Walk) (h : Held) (step : Step) → AllWant s.rules → step_fault s w.position h step ≡ [] → Full h.rows
    → Full (after_step s.rules word w h step).held.rows
full_step s word w h (next waiting) all taken full = full
full_step s word w h (trailing place) all taken full = full
full_step s word w h (subcommand name) all taken full = full
full_step s word w h value all taken full = go (arg_by_index s.rules w.position) taken
  where
    kept : (b : Bool) → cond b [] (settle_fault s.rules s.args_override_self h) ≡ [] → Full (cond b h (settled s.rules h)).rows
    kept true e = full
    kept false e = full_settled s.rules s.args_override_self h all e full

    go : (found : Option Rule) → option_map_or (λ a. positional_fault s.rules s.args_override_self a h) found (stray_fault s) ≡ []
        → Full (to_positional s.rules found word w h).held.rows
    go None e = full
    go (Some a) e = kept (is_pending a h.pending && takes_several a) e

full_walked : (s : Shape) (w : Walk) (word : Text) → AllWant s.rules → turn_fault s [] w word ≡ [] → Full w.held.rows
    → Full (walked s.rules [] w word).held.rows
unfolding walked
full_walked s w word all taken full = go w.stopped taken
  where
    met : Held × Step
    met = word_met s.rules [] w.is_trailing w.waiting w.position word w.held

    go : (stopped : Option (Text × List Text))
        → cond (is_some stopped) [] (or_else (word_fault s [] w.is_trailing w.waiting word w.held) (step_fault s w.position met.0 met.1)) ≡ []
        → Full (walked_from s.rules [] stopped w word).held.rows
    go (Some p) e = full
    go None e =
        full_step s word w met.0 met.1 all (second_none (word_fault s [] w.is_trailing w.waiting word w.held) _ e)
        (full_word s w.is_trailing w.waiting w.position word w.held all (first_none (word_fault s [] w.is_trailing w.waiting word w.held) _ e) full)

full_walk : (s : Shape) (words : List Text) (w : Walk) → AllWant s.rules → walk_fault s [] w words ≡ [] → Full w.held.rows
    → Full (fold (walked s.rules []) w words).held.rows
unfolding walk_fault
full_walk s [] w all taken full = full
full_walk s (word ∷ rest) w all taken full =
    full_walk s rest (walked s.rules [] w word) all (second_none (turn_fault s [] w word) _ taken)
    (full_walked s w word all (first_none (turn_fault s [] w word) _ taken) full)

-- where the subcommand takes the words, each of its rows has a value
pub full_rows : (s : Shape) (words : List Text) → AllWant s.rules → level_fault s [] nothing_held words false [] ≡ [] → Full (rows_after s.rules [] words)
full_rows s words all taken = grind (arith, common_steps, first_none, full_defaults, full_settled, full_walk, second_none)
