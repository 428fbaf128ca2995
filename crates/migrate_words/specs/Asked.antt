-- Which words of a call, those after the program's name, ask for what.
use Rattle.std.specs.Prelude.{◌≡◌, ◌<◌, ◌≤◌, ℕ, true, false, List, [], Option, Some, None, codes, length}
use Rattle.std.specs.List.{AllZip}
use Rattle.net_addr.specs.Numerals.{IsNumeralUpTo}
use Rattle.clap.specs.Words.{Row, Text, all_of, fault_of, first_of, subcommand_of}
use Rattle.net_model.specs.declared.config.Levels.{Levels}
use Rattle.design_file.specs.Values.{is_area, levels_named}
use Rattle.migrate_words.specs.CommandLine.{command_line}
use Rattle.migrate_words.specs.Schemes.{AskedScheme, usual_scheme}
use Rattle.migrate_words.specs.Usages.{network_names, usage_of}
use Rattle.migrate_words.specs.declared.command.Command.{Command}
use Rattle.migrate_words.specs.declared.command.CommandKind.{CommandKind}
use Rattle.migrate_words.specs.declared.command.TheConstants.{LEAST_BUDGET, MOST_BUDGET, USUAL_BUDGET, LEAST_SAMPLE, MOST_SAMPLE, LEAST_WAVE, MOST_WAVE}
use Rattle.migrate_words.specs.declared.subcommands.ConfigFiles.{ConfigFiles}
use Rattle.migrate_words.specs.declared.subcommands.ConfigFiles.TheVariants.{NoConfigs, Several, Networks}
use Rattle.migrate_words.specs.declared.subcommands.NumberTaken.{NumberTaken}
use Rattle.migrate_words.specs.declared.subcommands.NumberTaken.TheVariants.{NoNumber, Budget, Routers, DesignOptions, WaveSize}

-- the word is a decimal numeral whose value n is in this range
pub record IsNumberIn (least most : ℕ) (word : Text) (n : ℕ) : Type 0 where
  pub numeral : IsNumeralUpTo most word n
  pub above : least ≤ n

-- the number that is given: 0 where none is taken, else that of the word, or the usual budget where there is no word
abbrev pub IsGivenNumber : NumberTaken → Option Text → ℕ → Type 0
IsGivenNumber NoNumber word n = n ≡ 0
IsGivenNumber Budget None n = n ≡ USUAL_BUDGET
IsGivenNumber Budget (Some word) n = IsNumberIn LEAST_BUDGET MOST_BUDGET word n
IsGivenNumber Routers None n = ⊥
IsGivenNumber Routers (Some word) n = IsNumberIn LEAST_SAMPLE MOST_SAMPLE word n
IsGivenNumber WaveSize None n = ⊥
IsGivenNumber WaveSize (Some word) n = IsNumberIn LEAST_WAVE MOST_WAVE word n
IsGivenNumber DesignOptions word n = n ≡ 0

-- the area that is given: the word, which is an area, or the usual one where there is no word
abbrev pub IsGivenArea : Option Text → Text → Type 0
IsGivenArea None area = area ≡ usual_scheme.area
IsGivenArea (Some word) area = (area ≡ word) × (is_area word ≡ true)

-- the levels that are given: those that the word says, or the usual ones where there is no word
abbrev pub AreGivenLevels : Option Text → Levels → Type 0
AreGivenLevels None levels = levels ≡ usual_scheme.levels
AreGivenLevels (Some word) levels = levels_named word ≡ Some levels

-- the scheme that is given, the usual one where none is taken
abbrev pub IsGivenScheme : NumberTaken → List Row → AskedScheme → Type 0
IsGivenScheme DesignOptions rows scheme =
    IsGivenArea (first_of (codes "AREA") rows) scheme.area × AreGivenLevels (first_of (codes "L") rows) scheme.levels
IsGivenScheme _ rows scheme = scheme ≡ usual_scheme

-- the argument of this name has this text
abbrev pub HasText : List Row → Text → Text → Type 0
HasText rows argument text = first_of argument rows ≡ Some text

-- the arguments of these names have these texts, each one its own
abbrev pub HaveTexts : List Row → List Text → List Text → Type 0
HaveTexts rows arguments texts = AllZip (HasText rows) arguments texts

-- the configuration files are these: none where none are taken, and one of each network where two networks are
abbrev pub HasConfigs : ConfigFiles → List Row → List Text → Type 0
HasConfigs Several rows configs = all_of (codes "CONFIG") rows ≡ Some configs
HasConfigs NoConfigs rows configs = configs ≡ []
HasConfigs Networks rows configs = HaveTexts rows network_names configs

-- the arguments of the subcommand have the values of the command
pub record Gives (rows : List Row) (command : Command) : Type 0 where
  pub number : IsGivenNumber (usage_of command.kind).number (first_of (codes "N") rows) command.number
  pub scheme : IsGivenScheme (usage_of command.kind).number rows command.scheme
  pub own : HaveTexts rows (usage_of command.kind).own command.own
  pub configs : HasConfigs (usage_of command.kind).configs rows command.configs

-- the command line takes the words
abbrev pub AreTaken : List Text → Type 0
AreTaken words = fault_of command_line words ≡ []

-- the words enter the subcommand of this command, whose arguments come to these rows
abbrev pub Enters : List Text → CommandKind → List Row → Type 0
Enters words kind rows = subcommand_of command_line words ≡ Some ((usage_of kind).word, rows)

-- the words ask for the command: the command line takes them, they name its subcommand, and give its arguments these values
pub record Asks (words : List Text) (command : Command) : Type 0 where
  pub taken : AreTaken words
  pub rows : List Row
  pub entered : Enters words command.kind rows
  pub given : Gives rows command

-- a value of these rows is off: a number is no numeral or out of its range, an area is none, or a level is none
pub data IsValueOff (number : NumberTaken) (rows : List Row) : Type 0 where
  number_off : (word : Text) → HasText rows (codes "N") word → ((n : ℕ) → ¬ IsGivenNumber number (Some word) n) → IsValueOff number rows
  area_off : (word : Text) → number ≡ DesignOptions → HasText rows (codes "AREA") word → is_area word ≡ false → IsValueOff number rows
  level_off : (word : Text) → number ≡ DesignOptions → HasText rows (codes "L") word → levels_named word ≡ None → IsValueOff number rows

-- a value that the words give is off
pub record HasValueOff (words : List Text) : Type 0 where
  pub kind : CommandKind
  pub rows : List Row
  pub entered : Enters words kind rows
  pub off : IsValueOff (usage_of kind).number rows

-- a number is within the range of the command line
abbrev pub IsNumberInRange : NumberTaken → ℕ → Type 0
IsNumberInRange NoNumber n = n ≡ 0
IsNumberInRange Budget n = (LEAST_BUDGET ≤ n) × (n ≤ MOST_BUDGET)
IsNumberInRange Routers n = (LEAST_SAMPLE ≤ n) × (n ≤ MOST_SAMPLE)
IsNumberInRange WaveSize n = (LEAST_WAVE ≤ n) × (n ≤ MOST_WAVE)
IsNumberInRange DesignOptions n = n ≡ 0

-- there is a configuration file, none where none are taken, or one of each of two networks
abbrev pub AreConfigsInRange : ConfigFiles → List Text → Type 0
AreConfigsInRange Several configs = 0 < length configs
AreConfigsInRange NoConfigs configs = configs ≡ []
AreConfigsInRange Networks configs = length configs ≡ 2

-- a command is as its usage line has it: its number is in its range, its area is one, it names as many files of its own as it takes, and at least
-- one configuration where it takes any
pub record IsInRange (command : Command) : Type 0 where
  pub number : IsNumberInRange (usage_of command.kind).number command.number
  pub area : is_area command.scheme.area ≡ true
  pub own : length command.own ≡ length (usage_of command.kind).own
  pub configs : AreConfigsInRange (usage_of command.kind).configs command.configs
