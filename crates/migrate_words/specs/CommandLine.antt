-- The command line of `migrate` in the terms of `clap`: a subcommand for each command, of which one is required.
use Rattle.std.specs.Prelude.{Some, true, false, [], ◌∷◌, ◌++◌, codes, List, map}
use Rattle.clap.specs.declared.builder.action.ArgAction.TheVariants.{Append}
use Rattle.clap.specs.Words.{App, Rule, Shape, Text, new_rule}
use Rattle.clap.specs.Simple.{new_shape}
use Rattle.migrate_words.specs.Usages.{Usage, kinds, network_names, usage_of}
use Rattle.migrate_words.specs.declared.command.CommandKind.{CommandKind}
use Rattle.migrate_words.specs.declared.subcommands.ConfigFiles.{ConfigFiles}
use Rattle.migrate_words.specs.declared.subcommands.ConfigFiles.TheVariants.{NoConfigs, Several, Networks}
use Rattle.migrate_words.specs.declared.subcommands.NumberTaken.{NumberTaken}
use Rattle.migrate_words.specs.declared.subcommands.NumberTaken.TheVariants.{NoNumber, Budget, Routers, DesignOptions, WaveSize}

-- a required positional of one text
abbrev pub one_text : Text → Rule
one_text id = record (new_rule id) { required = true }

-- a required positional of one or more texts: the configuration files
abbrev pub config_files : Rule
config_files = record (new_rule (codes "CONFIG")) { required = true; action = Some Append }

-- the option `--budget` of one text
abbrev pub budget_option : Rule
budget_option = record (new_rule (codes "N")) { long = Some (codes "budget") }

-- the options `--area` and `--level` of one text
abbrev pub area_option : Rule
area_option = record (new_rule (codes "AREA")) { long = Some (codes "area") }

abbrev pub level_option : Rule
level_option = record (new_rule (codes "L")) { long = Some (codes "level") }

-- the argument for a number, or the options in its place
abbrev pub number_rules : NumberTaken → List Rule
number_rules NoNumber = []
number_rules Budget = budget_option ∷ []
number_rules Routers = one_text (codes "N") ∷ []
number_rules WaveSize = one_text (codes "N") ∷ []
number_rules DesignOptions = area_option ∷ level_option ∷ []

-- the arguments for configuration files
abbrev pub config_rules : ConfigFiles → List Rule
config_rules Several = config_files ∷ []
config_rules NoConfigs = []
config_rules Networks = map one_text network_names

-- the arguments of a usage line, in their order
abbrev pub rules_of : Usage → List Rule
rules_of usage = number_rules usage.number ++ map one_text usage.own ++ config_rules usage.configs

-- the subcommand of a usage line
abbrev pub shape_of : Usage → Shape
shape_of usage = record (new_shape usage.word) { rules = rules_of usage }

abbrev pub command_shape : CommandKind → Shape
command_shape kind = shape_of (usage_of kind)

-- `migrate`, whose words have no program's name: it has no argument of its own but a version, and one subcommand is required
abbrev pub migrate_top : Shape
migrate_top = record
    (new_shape (codes "migrate")) { is_leaf = false; no_binary_name = true; has_version = true; subcommand_required = true }

unfoldable pub command_line : App
command_line = record { top = migrate_top; subs = map command_shape kinds }
