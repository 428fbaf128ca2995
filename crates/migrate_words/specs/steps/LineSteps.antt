-- How the command line is made, part by part.
use Rattle.std.specs.Prelude.{◌≡◌, ◌++◌, [], List, true, false, codes}
use Rattle.clap.specs.Words.{App, Rule, Shape, app_of, rule_of}
use Rattle.clap.specs.Simple.{new_shape}
use Rattle.clap.specs.declared.builder.arg.Arg.{Arg}
use Rattle.clap.specs.declared.builder.command.Command.{Command}
use Rattle.clap.specs.declared.builder.command.Command.TheViews.{out-Command}

-- the argument is this one, and not global
abbrev pub IsRule : Rule → Arg → Type 0
IsRule rule argument = (rule_of argument ≡ rule) × (argument.global ≡ false)

-- the command is this one, with no global argument
abbrev pub IsWhole : App → Command → Type 0
IsWhole whole command = (app_of command ≡ whole) × ((out-Command command).has_globals ≡ false)

-- the subcommand is this one, with no global argument
abbrev pub IsLine : Shape → Command → Type 0
IsLine line command = IsWhole (record { top = line; subs = [] }) command

-- a subcommand with more arguments
abbrev pub with_arguments : Shape → List Rule → Shape
with_arguments line rules = record line { rules = line.rules ++ rules }

-- the command line before any subcommand
abbrev pub bare_line : App
bare_line = record {
  top = record (new_shape (codes "migrate")) { no_binary_name = true; has_version = true; subcommand_required = true };
  subs = [];
}
