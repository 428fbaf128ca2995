-- The entries of the table of subcommands, and the usage lines of the commands.
use Rattle.std.proofs.Common.{arith}
use Rattle.std.proofs.lemmas.Grind.{common_steps}
use Rattle.std.proofs.Common.{◌≡◌, ◌∙◌, ℕ, ◌≤◌, Bool, true, false, cond, List, [], ◌∷◌, Option, Some, length, map, take, refl, drop, get_or}
use Rattle.std.proofs.Common.{sym, ap, ap₂, true≢false}
use Rattle.std.proofs.lemmas.List.{take_all}
use Rattle.std.proofs.lemmas.List.Elements.{All-cons, All-head, All-nil, All-tail}
use Rattle.std.specs.List.{All, find, fold}
use Rattle.std.specs.Option.{IfSome, is_some, option_map}
use Rattle.std.specs.Str.{bytes_eq}
use Rattle.clap.specs.Words.{App, Text, with_subcommand}
use Rattle.migrate_words.specs.CommandLine.{command_line, command_shape, shape_of}
use Rattle.migrate_words.specs.Usages.{Usage, kinds, usage_of}
use Rattle.migrate_words.specs.steps.LineSteps.{bare_line}
use Rattle.migrate_words.specs.steps.Seen.{IsOfTable, kind_of_entry, usage_seen}
use Rattle.migrate_words.specs.declared.command.CommandKind.{CommandKind}
use Rattle.migrate_words.specs.declared.subcommands.Subcommand.{Subcommand}
use Rattle.migrate_words.proofs.RowFacts.{some_is}

-- each entry of the table has the usage line of its command
pub of_table : (entries : List Subcommand) → map usage_seen entries ≡ map usage_of (map kind_of_entry entries)
    → All IsOfTable entries
of_table [] same = All-nil IsOfTable
of_table (entry ∷ rest) same = All-cons IsOfTable entry rest
    (ap (λ (usages : List Usage). get_or usages 0 (usage_seen entry)) same)
    (of_table rest (ap (λ (usages : List Usage). drop 1 usages) same))

-- the command line with the subcommand of one more entry
abbrev pub with_entry : App → Subcommand → App
with_entry whole entry = with_subcommand whole (shape_of (usage_seen entry))

fold_entries : (whole : App) (entries : List Subcommand) → All IsOfTable entries →
    fold with_entry whole entries ≡ fold (λ a kind. with_subcommand a (command_shape kind)) whole (map kind_of_entry entries)
fold_entries whole [] all = refl
fold_entries whole (entry ∷ rest) all =
    let same : with_entry whole entry ≡ with_subcommand whole (command_shape (kind_of_entry entry)) =
    ap (λ (u : Usage). with_subcommand whole (shape_of u)) (All-head IsOfTable entry rest all) in
    ap (λ (a : App). fold with_entry a rest) same ∙ fold_entries _ rest (All-tail IsOfTable entry rest all)

-- the line with the subcommands of all entries is the command line
pub whole_of_entries : (entries : List Subcommand) (i : ℕ) → map kind_of_entry entries ≡ kinds → All IsOfTable entries
    → length entries ≤ i →
    fold with_entry bare_line (take i entries) ≡ command_line
unfolding command_line
whole_of_entries entries i are all end = grind (arith, common_steps, fold_entries, take_all)

-- an entry is found by the word of its command
pub find_entry : (entries : List Subcommand) (word : Text) → All IsOfTable entries →
    option_map kind_of_entry (find (λ entry. bytes_eq entry.word.now word) entries)
    ≡ find (λ kind. bytes_eq (usage_of kind).word word) (map kind_of_entry entries)
find_entry [] word all = refl
find_entry (entry ∷ rest) word all =
    let same : bytes_eq entry.word.now word ≡ bytes_eq (usage_of entry.kind).word word =
    ap (λ (u : Usage). bytes_eq u.word word) (All-head IsOfTable entry rest all) in
    step (bytes_eq entry.word.now word) ∙ ap₂ (λ (b : Bool) (later : Option CommandKind). cond b (Some entry.kind) later) same
    (find_entry rest word (All-tail IsOfTable entry rest all))
  where
    step : (b : Bool) → option_map kind_of_entry (cond b (Some entry) (find (λ e. bytes_eq e.word.now word) rest))
        ≡ cond b (Some entry.kind) (option_map kind_of_entry (find (λ e. bytes_eq e.word.now word) rest))
    step true = refl
    step false = refl

-- and what holds of each entry holds of the one that is found
pub find_holds : {X : Type 0} (P : X → Type 0) (test : X → Bool) (xs : List X) → All P xs → IfSome (find test xs) P
find_holds P test [] all = tt
find_holds P test (x ∷ rest) all = go (find_holds P test rest (All-tail P x rest all)) (test x)
  where
    go : IfSome (find test rest) P → (b : Bool) → IfSome (cond b (Some x) (find test rest)) P
    go later true = All-head P x rest all
    go later false = later

-- the word of a command finds it among all commands
pub kind_found : (kind : CommandKind) → find (λ k. bytes_eq (usage_of k).word (usage_of kind).word) kinds ≡ Some kind
kind_found kind = grind (arith, common_steps)

-- what is found passes the test
pub found_passes : {X : Type 0} (test : X → Bool) (xs : List X) (x : X) → find test xs ≡ Some x → test x ≡ true
found_passes test [] x found = absurd (true≢false (sym (ap is_some found)))
found_passes test (y ∷ rest) x found = go (found_passes test rest x) (test y) refl found
  where
    go : (find test rest ≡ Some x → test x ≡ true) → (b : Bool) → test y ≡ b → cond b (Some y) (find test rest) ≡ Some x
        → test x ≡ true
    go later true passes e = ap test (sym (some_is y x e)) ∙ passes
    go later false fails e = later e

-- so a word is that of one command
pub same_kind : (kind other : CommandKind) → (usage_of kind).word ≡ (usage_of other).word → kind ≡ other
same_kind kind other same = grind (arith, common_steps, kind_found, some_is)
