-- What each command takes: the table of the usage lines.
use Rattle.std.specs.Prelude.{List, [], ◌∷◌, codes}
use Rattle.clap.specs.Words.{Text}
use Rattle.migrate_words.specs.declared.command.CommandKind.{CommandKind}
use Rattle.migrate_words.specs.declared.command.CommandKind.TheVariants.{Check, Prepare, Plan, TwoPass, Refute, Scripts, Replay, Sample}
use Rattle.migrate_words.specs.declared.command.CommandKind.TheVariants.{Pair, PairScripts, PairCheck, PairRefute, Design, Split, Delta, Tables, Why, Picture, Failures, Rollback, Replan, Observe, Survey}
use Rattle.migrate_words.specs.declared.subcommands.ConfigFiles.{ConfigFiles}
use Rattle.migrate_words.specs.declared.subcommands.ConfigFiles.TheVariants.{NoConfigs, Several, Networks}
use Rattle.migrate_words.specs.declared.subcommands.NumberTaken.{NumberTaken}
use Rattle.migrate_words.specs.declared.subcommands.NumberTaken.TheVariants.{NoNumber, Budget, Routers, DesignOptions, WaveSize}

-- a usage line: the word of the command, the number that it takes or the options in its place, the names of the files of its own in their order, and the
-- configuration files that come last
pub record Usage : Type 0 where
  pub word : Text
  pub number : NumberTaken
  pub own : List Text
  pub configs : ConfigFiles

abbrev pub usage : Text → NumberTaken → List Text → ConfigFiles → Usage
usage word number own configs = record { word = word; number = number; own = own; configs = configs }

-- the names of the files of two networks in a usage line
abbrev pub network_names : List Text
network_names = codes "OLD" ∷ codes "NEW" ∷ []

-- the usage line of each command
abbrev pub usage_of : CommandKind → Usage
usage_of Survey = usage (codes "survey") NoNumber [] Several
usage_of Check = usage (codes "check") NoNumber (codes "ORDER" ∷ []) Several
usage_of Prepare = usage (codes "prepare") NoNumber (codes "DESIGN" ∷ []) Several
usage_of Plan = usage (codes "plan") Budget [] Several
usage_of TwoPass = usage (codes "twopass") Budget [] Several
usage_of Refute = usage (codes "refute") NoNumber (codes "TREE" ∷ []) Several
usage_of Scripts = usage (codes "scripts") NoNumber (codes "ORDER" ∷ []) Several
usage_of Replay = usage (codes "replay") NoNumber (codes "ORDER" ∷ codes "JOURNAL" ∷ []) Several
usage_of Sample = usage (codes "sample") Routers [] NoConfigs
usage_of Pair = usage (codes "pair") Budget [] Networks
usage_of PairScripts = usage (codes "pairscripts") NoNumber (codes "ORDER" ∷ []) Networks
usage_of PairCheck = usage (codes "paircheck") NoNumber (codes "ORDER" ∷ []) Networks
usage_of PairRefute = usage (codes "pairrefute") NoNumber (codes "TREE" ∷ []) Networks
usage_of Split = usage (codes "split") WaveSize (codes "ORDER" ∷ []) Several
usage_of Delta = usage (codes "delta") NoNumber (codes "DESIGN" ∷ []) Several
usage_of Tables = usage (codes "tables") NoNumber [] Several
usage_of Why = usage (codes "why") NoNumber (codes "ORDER" ∷ []) Several
usage_of Picture = usage (codes "picture") NoNumber (codes "ORDER" ∷ []) Several
usage_of Failures = usage (codes "failures") NoNumber (codes "ORDER" ∷ []) Several
usage_of Rollback = usage (codes "rollback") NoNumber (codes "ORDER" ∷ codes "JOURNAL" ∷ []) Several
usage_of Replan = usage (codes "replan") Budget (codes "ORDER" ∷ codes "JOURNAL" ∷ []) Several
usage_of Observe = usage (codes "observe") NoNumber (codes "ORDER" ∷ codes "BEFORE" ∷ []) Several
usage_of Design = usage (codes "design") DesignOptions [] Several

-- the commands, in the order in which help tells them
abbrev pub kinds : List CommandKind
kinds =
    Survey ∷ Check ∷ Prepare ∷ Plan ∷ TwoPass ∷ Refute ∷ Scripts ∷ Replay ∷ Sample ∷ Pair ∷ PairScripts ∷ PairCheck ∷ PairRefute ∷ Split ∷ Delta
    ∷ Tables ∷ Why ∷ Picture ∷ Failures ∷ Rollback ∷ Replan ∷ Observe ∷ Design ∷ []
