-- The subcommand that a first word enters.
use Rattle.std.proofs.Common.{arith}
use Rattle.std.proofs.lemmas.Grind.{common_steps}
use Rattle.std.proofs.Common.{◌≡◌, ◌∙◌, true, false, List, [], ◌∷◌, Some, ap, codes}
use Rattle.std.specs.Prelude.{◌&&◌, find, not}
use Rattle.std.specs.List.{fold}
use Rattle.std.specs.Str.{bytes_eq}
use Rattle.clap.specs.Words.{App, Row, Rule, Shape, Text}
use Rattle.clap.specs.Walk.{Names, answers_to, finished, idle, nothing_held, rows_after, subcommand_met}
use Rattle.clap.specs.Walk.{walk, walk_from, walked, with_default}
use Rattle.clap.specs.Simple.{entered, label_of, names_of}
use Rattle.clap.specs.Kinds.{or_else}
use Rattle.clap.specs.Faults.{built_fault, check_fault, defaults_fault, level_fault, turn_fault}
use Rattle.clap.specs.Faults.{walk_fault}
use Rattle.clap.proofs.FaultLemmas.{stopped_fault}
use Rattle.clap.proofs.WalkLemmas.{walk_stopped}
use Rattle.migrate_words.proofs.PlainWalk.{Ends, before}

-- the first word names a subcommand, so the walk stops there and leaves the rest to it
walked_name : (c : List Rule) (names : Names) (name : Text) → subcommand_met names idle name ≡ Some name
    → walked c names (walk_from nothing_held) name ≡ record (walk_from nothing_held) { stopped = Some (name, []) }
unfolding walked
walked_name c names name met = grind (arith, common_steps)

walk_name : (c : List Rule) (names : Names) (name : Text) (rest : List Text) → subcommand_met names idle name ≡ Some name
    → walk c names nothing_held (name ∷ rest) ≡ record (walk_from nothing_held) { stopped = Some (name, rest) }
walk_name c names name rest met = grind (arith, common_steps, walk_stopped, walked_name)

turn_name : (s : Shape) (names : Names) (name : Text) → subcommand_met names idle name ≡ Some name
    → (bytes_eq name (codes "help") && not s.disable_help_subcommand) ≡ false
    → turn_fault s names (walk_from nothing_held) name ≡ []
turn_name s names name met other = grind (arith, common_steps)

walk_fault_name : (s : Shape) (names : Names) (name : Text) (rest : List Text) → subcommand_met names idle name ≡ Some name
    → (bytes_eq name (codes "help") && not s.disable_help_subcommand) ≡ false → walk_fault s names (walk_from nothing_held) (name ∷ rest) ≡ []
unfolding walk_fault
walk_fault_name s names name rest met other = grind (arith, common_steps, stopped_fault, turn_name, walked_name)

-- the words name the subcommand `line`, and the command itself refuses nothing
pub record NamesLine (a : App) (name : Text) (line : Shape) : Type 0 where
  pub met : subcommand_met (names_of a) idle name ≡ Some name
  pub other : (bytes_eq name (codes "help") && not a.top.disable_help_subcommand) ≡ false
  pub found : find (λ s. answers_to name (label_of s)) a.subs ≡ Some line
  pub quiet : or_else (defaults_fault [] a.top.rules) (check_fault a.top (finished a.top.rules nothing_held) true) ≡ []

-- what the subcommand takes, the command takes
pub taken_by : (a : App) (name : Text) (line : Shape) (rest : List Text) → NamesLine a name line → level_fault line [] nothing_held rest false [] ≡ []
    → built_fault a nothing_held (name ∷ rest) ≡ []
taken_by a name line rest enters below = grind (arith, common_steps, walk_fault_name, walk_name)

-- the subcommand is entered with the words after its name
pub entered_by : (a : App) (name : Text) (line : Shape) (rest : List Text) → NamesLine a name line
    → entered a (walk a.top.rules (names_of a) nothing_held (name ∷ rest)).stopped ≡ Some (line.name, rows_after line.rules [] rest)
entered_by a name line rest enters = grind (arith, common_steps, walk_name)

-- the subcommand takes the words, and comes to these rows
pub record Takes (line : Shape) (words : List Text) (rows : List Row) : Type 0 where
  pub ends : Ends line (before nothing_held false 1) words rows
  pub quiet : or_else (defaults_fault rows line.rules) (check_fault line (fold with_default rows line.rules) false) ≡ []
  pub full : fold with_default rows line.rules ≡ rows

pub takes_words : (line : Shape) (words : List Text) (rows : List Row) → Takes line words rows → level_fault line [] nothing_held words false [] ≡ []
takes_words line words rows takes = grind (arith, common_steps)

pub takes_rows : (line : Shape) (words : List Text) (rows : List Row) → Takes line words rows → rows_after line.rules [] words ≡ rows
takes_rows line words rows takes = ap (λ (found : List Row). fold with_default found line.rules) takes.ends.rows_are ∙ takes.full
