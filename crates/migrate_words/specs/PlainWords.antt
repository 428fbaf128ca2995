-- Plain words: those of the program's page, as they are written where no word begins with a hyphen but `--budget`, `--area` and
-- `--level`.
use Rattle.std.specs.Prelude.{◌≡◌, ◌≢◌, ℕ, true, Some, List, [], ◌∷◌, ◌++◌, All, codes, length}
use Rattle.clap.specs.Words.{Text}
use Rattle.net_model.specs.declared.config.Levels.{Levels}
use Rattle.design_file.specs.Values.{is_area, levels_named}
use Rattle.migrate_words.specs.Asked.{IsNumberIn}
use Rattle.migrate_words.specs.Schemes.{AskedScheme, scheme_of, usual_scheme}
use Rattle.migrate_words.specs.Usages.{usage_of}
use Rattle.migrate_words.specs.declared.command.Command.{Command}
use Rattle.migrate_words.specs.declared.command.TheConstants.{LEAST_BUDGET, MOST_BUDGET, USUAL_BUDGET, LEAST_SAMPLE, MOST_SAMPLE, LEAST_WAVE, MOST_WAVE}
use Rattle.migrate_words.specs.declared.subcommands.ConfigFiles.{ConfigFiles}
use Rattle.migrate_words.specs.declared.subcommands.ConfigFiles.TheVariants.{NoConfigs, Several, Networks}
use Rattle.migrate_words.specs.declared.subcommands.NumberTaken.{NumberTaken}
use Rattle.migrate_words.specs.declared.subcommands.NumberTaken.TheVariants.{NoNumber, Budget, Routers, DesignOptions, WaveSize}

-- a plain name: it isn't empty, and it doesn't begin with `-`
abbrev pub IsPlainName : Text → Type 0
IsPlainName [] = ⊥
IsPlainName (first ∷ _) = first ≢ 45

-- plain names, at least one
pub record ArePlainNames (names : List Text) : Type 0 where
  pub some : names ≢ []
  pub plain : All IsPlainName names

-- the words for an area: none where the usual one is meant, or `--area AREA`
pub data WritesArea : List Text → Text → Type 0 where
  usual_area : WritesArea [] usual_scheme.area
  area : (word : Text) → is_area word ≡ true → WritesArea (codes "--area" ∷ word ∷ []) word

-- the words for some levels: none where the usual ones are meant, or `--level L`
pub data WritesLevels : List Text → Levels → Type 0 where
  usual_levels : WritesLevels [] usual_scheme.levels
  level : (word : Text) (levels : Levels) → levels_named word ≡ Some levels → WritesLevels (codes "--level" ∷ word ∷ []) levels

-- the words for a number and a scheme: none where none is taken or the usual budget is meant, `--budget N`, N, or the options of
-- a design
pub data WritesNumber : NumberTaken → List Text → ℕ → AskedScheme → Type 0 where
  no_number : WritesNumber NoNumber [] 0 usual_scheme
  usual_budget : WritesNumber Budget [] USUAL_BUDGET usual_scheme
  budget : (word : Text) (n : ℕ) → IsNumberIn LEAST_BUDGET MOST_BUDGET word n
      → WritesNumber Budget (codes "--budget" ∷ word ∷ []) n usual_scheme
  routers : (word : Text) (n : ℕ) → IsNumberIn LEAST_SAMPLE MOST_SAMPLE word n → WritesNumber Routers (word ∷ []) n usual_scheme
  wave_size : (word : Text) (n : ℕ) → IsNumberIn LEAST_WAVE MOST_WAVE word n → WritesNumber WaveSize (word ∷ []) n usual_scheme
  options : (area_words level_words : List Text) (its_area : Text) (its_levels : Levels) → WritesArea area_words its_area
      → WritesLevels level_words its_levels
      → WritesNumber DesignOptions (area_words ++ level_words) 0 (scheme_of its_area its_levels)

-- two plain names
pub record AreTwoNames (names : List Text) : Type 0 where
  pub two : length names ≡ 2
  pub plain : All IsPlainName names

-- plain names of configurations: none where none are taken, and two where those of two networks are
abbrev pub ArePlainConfigs : ConfigFiles → List Text → Type 0
ArePlainConfigs Several configs = ArePlainNames configs
ArePlainConfigs NoConfigs configs = configs ≡ []
ArePlainConfigs Networks configs = AreTwoNames configs

-- the words are plain, and this is what they ask for: the word of the command, its number, the files of its own, as many as it
-- takes, and its configurations
pub record AsksPlainly (words : List Text) (command : Command) : Type 0 where
  pub number_words : List Text
  pub words_are : words ≡ (usage_of command.kind).word ∷ number_words ++ command.own ++ command.configs
  pub number : WritesNumber (usage_of command.kind).number number_words command.number command.scheme
  pub count : length command.own ≡ length (usage_of command.kind).own
  pub own : All IsPlainName command.own
  pub configs : ArePlainConfigs (usage_of command.kind).configs command.configs
