-- The subcommands as `clap` builds them, and the one that words enter.
use Rattle.std.proofs.Common.{◌≡◌, ◌∙◌, ℕ, Bool, cond, true, false, List, [], ◌∷◌, ◌++◌, Some, None, map, refl, sym, ap}
use Rattle.std.proofs.Common.{true≢false, codes}
use Rattle.std.proofs.lemmas.Slice.Eq.{bytes_eq-Decides}
use Rattle.std.specs.List.{find}
use Rattle.std.specs.Option.{is_some}
use Rattle.std.specs.Prelude.{◌||◌}
use Rattle.std.specs.Str.{bytes_eq}
use Rattle.clap.specs.Words.{Rule, Shape, Text, built}
use Rattle.clap.specs.Walk.{answers_to, nothing_held, rows_after}
use Rattle.clap.specs.Simple.{built_leaf, filled, filled_from, help_rule, help_shape, index_after, label_of, new_shape}
use Rattle.clap.specs.Simple.{with_index}
use Rattle.clap.specs.Faults.{level_fault}
use Rattle.migrate_words.specs.Asked.{AreTaken, Enters}
use Rattle.migrate_words.specs.CommandLine.{area_option, budget_option, command_line, config_files, config_rules, level_option, number_rules, one_text}
use Rattle.migrate_words.specs.CommandLine.{rules_of}
use Rattle.migrate_words.specs.Usages.{Usage, kinds, network_names, usage_of}
use Rattle.migrate_words.specs.declared.command.CommandKind.{CommandKind}
use Rattle.migrate_words.specs.declared.subcommands.ConfigFiles.{ConfigFiles}
use Rattle.migrate_words.specs.declared.subcommands.ConfigFiles.TheVariants.{NoConfigs, Several, Networks}
use Rattle.migrate_words.specs.declared.subcommands.NumberTaken.{NumberTaken}
use Rattle.migrate_words.specs.declared.subcommands.NumberTaken.TheVariants.{NoNumber, Budget, Routers, DesignOptions, WaveSize}
use Rattle.migrate_words.proofs.RowFacts.{some_is}
use Rattle.migrate_words.proofs.TakenWalk.{line_of_taken}

-- the subcommand of a usage line as it is built
abbrev pub built_line : Usage → Shape
built_line usage = record (new_shape usage.word) {
  rules = filled_from 1 (rules_of usage ++ help_rule ∷ []);
  no_binary_name = true;
  disable_help_subcommand = true;
  is_built = true;
}

abbrev pub built_of : CommandKind → Shape
built_of kind = built_line (usage_of kind)

-- the subcommands of the built command line: one for each command, and `help`
pub built_subs : (built command_line).subs ≡ map built_of kinds ++ built_leaf help_shape ∷ []
unfolding command_line
built_subs = refl

-- ---- what holds of each argument of a line

-- P holds of each of these arguments as it is built, at every place
abbrev pub EachFilled : (Rule → Type 0) → List Rule → Type 0
EachFilled P [] = Unit {0}
EachFilled P (a ∷ rest) = ((i : ℕ) → P (with_index i (filled a))) × EachFilled P rest

-- P holds of each rule
abbrev pub Each : (Rule → Type 0) → List Rule → Type 0
Each P [] = Unit {0}
Each P (a ∷ rest) = P a × Each P rest

pub each_filled : (P : Rule → Type 0) (i : ℕ) (rules : List Rule) → EachFilled P rules → Each P (filled_from i rules)
each_filled P i [] each = tt
each_filled P i (a ∷ rest) each = (each.0 i, each_filled P (index_after i a) rest each.1)

-- P holds of each kind of argument
pub record OfArguments (P : Rule → Type 0) : Type 0 where
  pub text : (id : Text) (i : ℕ) → P (with_index i (filled (one_text id)))
  pub budget : (i : ℕ) → P (with_index i (filled budget_option))
  pub area : (i : ℕ) → P (with_index i (filled area_option))
  pub level : (i : ℕ) → P (with_index i (filled level_option))
  pub files : (i : ℕ) → P (with_index i (filled config_files))
  pub help : (i : ℕ) → P (with_index i (filled help_rule))

each_append : (P : Rule → Type 0) (rules more : List Rule) → EachFilled P rules → EachFilled P more → EachFilled P (rules ++ more)
each_append P [] more each others = others
each_append P (a ∷ rest) more each others = (each.0, each_append P rest more each.1 others)

each_text : (P : Rule → Type 0) → OfArguments P → (ids : List Text) → EachFilled P (map one_text ids)
each_text P of [] = tt
each_text P of (id ∷ ids) = (of.text id, each_text P of ids)

each_number : (P : Rule → Type 0) → OfArguments P → (number : NumberTaken) → EachFilled P (number_rules number)
each_number P of NoNumber = tt
each_number P of Budget = (of.budget, tt)
each_number P of Routers = (of.text (codes "N"), tt)
each_number P of WaveSize = (of.text (codes "N"), tt)
each_number P of DesignOptions = (of.area, (of.level, tt))

each_config : (P : Rule → Type 0) → OfArguments P → (configs : ConfigFiles) → EachFilled P (config_rules configs)
each_config P of NoConfigs = tt
each_config P of Several = (of.files, tt)
each_config P of Networks = each_text P of network_names

-- so it holds of each argument of a line
pub each_of_line : (P : Rule → Type 0) → OfArguments P → (usage : Usage) → Each P (built_line usage).rules
each_of_line P of usage =
    each_filled P 1 _ (each_append P (rules_of usage) (help_rule ∷ [])
    (each_append P (number_rules usage.number ++ map one_text usage.own) (config_rules usage.configs)
    (each_append P (number_rules usage.number) (map one_text usage.own) (each_number P of usage.number)
    (each_text P of usage.own))
    (each_config P of usage.configs)) (of.help, tt))

-- ---- the subcommand that is entered

-- the words enter the subcommand of a command, which takes the words after its name
pub record EntersLine (words : List Text) : Type 0 where
  pub kind : CommandKind
  pub rest : List Text
  pub takes : level_fault (built_of kind) [] nothing_held rest false [] ≡ []
  pub entered : Enters words kind (rows_after (built_of kind).rules [] rest)

line_found : (test : Shape → Bool) (some : List CommandKind) (last line : Shape) → test last ≡ false
    → find test (map built_of some ++ last ∷ []) ≡ Some line
    → (kind : CommandKind) × (line ≡ built_of kind)
line_found test [] last line fails found = absurd
    (true≢false (sym (ap is_some found) ∙ ap (λ b. is_some (cond b (Some last) None)) fails))
line_found test (kind ∷ rest) last line fails found = go (line_found test rest last line fails) (test (built_of kind)) found
  where
    go : (find test (map built_of rest ++ last ∷ []) ≡ Some line → (k : CommandKind) × (line ≡ built_of k)) → (b : Bool)
        → cond b (Some (built_of kind)) (find test (map built_of rest ++ last ∷ [])) ≡ Some line
        → (k : CommandKind) × (line ≡ built_of k)
    go later true e = (kind, sym (some_is (built_of kind) line e))
    go later false e = later e

-- the subcommand `help` isn't entered
not_help : (name : Text) → bytes_eq name (codes "help") ≡ false → (bytes_eq (codes "help") name || false) ≡ false
not_help name other = go (bytes_eq (codes "help") name) refl
  where
    go : (b : Bool) → bytes_eq (codes "help") name ≡ b → (b || false) ≡ false
    go true same =
        let is : codes "help" ≡ name = (bytes_eq-Decides (codes "help") name).0 same in
        absurd (true≢false (sym ((bytes_eq-Decides name (codes "help")).1 (sym is)) ∙ other))
    go false same = refl

pub enters_line : (words : List Text) → AreTaken words → EntersLine words
enters_line words taken =
    let finds = line_of_taken words taken in
    let test = λ (s : Shape). answers_to finds.name (label_of s) in
    let line = line_found test kinds (built_leaf help_shape) finds.line (not_help finds.name finds.other)
    (ap (find test) (sym built_subs) ∙ finds.found) in
    record {
      kind = line.0;
      rest = finds.rest;
      takes = ap (λ (s : Shape). level_fault s [] nothing_held finds.rest false []) (sym line.1) ∙ finds.taken;
      entered = finds.rows ∙ ap (λ (s : Shape). Some (s.name, rows_after s.rules [] finds.rest)) line.1;
    }
