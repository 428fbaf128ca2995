-- What each command reads, and the texts of its configurations.
use Rattle.std.specs.Prelude.{ℕ, List, [], ◌∷◌, ◌++◌, codes, length, map, take, drop, true, false}
use Rattle.migrate_words.specs.Schemes.{AskedScheme, usual_scheme}
use Rattle.migrate_words.specs.declared.command.Command.{Command}
use Rattle.migrate_words.specs.declared.command.CommandKind.{CommandKind}
use Rattle.migrate_words.specs.declared.command.CommandKind.TheVariants.{Prepare, Sample, Delta, Tables, Survey, Observe}
use Rattle.migrate_words.specs.declared.command.CommandKind.TheVariants.{Pair, PairScripts, PairCheck, PairRefute, Design}
use Rattle.sample_network.specs.SampleTexts.{sample_text}
use Rattle.migrate_cli.specs.Reading.{File}
use Rattle.migrate_cli.specs.declared.files.TheConstants.{FILE_MOST, DESIGN_MOST}

-- the texts that a command reads: those of its own files, and those of the configurations
pub record GivenTexts : Type 0 where
  pub own : List (List ℕ)
  pub configs : List (List ℕ)

abbrev pub given_texts : List (List ℕ) → List (List ℕ) → GivenTexts
given_texts own configs = record { own = own; configs = configs }

-- the command of these files and this number
abbrev pub command_of : CommandKind → List (List ℕ) → List (List ℕ) → ℕ → Command
command_of kind own configs number = record { kind = kind; own = own; configs = configs; number = number; scheme = usual_scheme }

-- `design` of this scheme and these configurations
abbrev pub design_of : AskedScheme → List (List ℕ) → Command
design_of scheme configs = record { kind = Design; own = []; configs = configs; number = 0; scheme = scheme }

-- how many bytes a file of a command's own has at most
abbrev pub own_most : CommandKind → ℕ
own_most Prepare = DESIGN_MOST
own_most Delta = DESIGN_MOST
own_most _ = FILE_MOST

-- a file of a command's own: an order, a tree, a journal or a design
abbrev pub own_file : CommandKind → List ℕ → File
own_file kind name = record { name = name; most = own_most kind; counts = false }

-- a file of configurations
abbrev pub config_file : List ℕ → File
config_file name = record { name = name; most = FILE_MOST; counts = true }

-- the files of a command besides its configurations
abbrev pub own_files : Command → List File
own_files command = map (own_file command.kind) command.own

-- what a command reads, in this order
abbrev pub files_of : Command → List File
files_of command = own_files command ++ map config_file command.configs

-- of the texts that a command reads, those of its own files
abbrev pub own_texts : Command → List (List ℕ) → List (List ℕ)
own_texts command texts = take (length command.own) texts

-- the texts of configurations of a command of this kind and number: those that are read, or the one that is made
abbrev pub made_texts : CommandKind → ℕ → List (List ℕ) → List (List ℕ)
made_texts Sample number texts = sample_text number ∷ []
made_texts _ number texts = texts

-- the texts of the configurations of a command that reads these texts
abbrev pub config_texts : Command → List (List ℕ) → List (List ℕ)
config_texts command texts = made_texts command.kind command.number (drop (length command.own) texts)

-- a text as a group of its own
abbrev pub alone : List ℕ → List (List ℕ)
alone text = text ∷ []

-- the groups of texts of configurations of a command of this kind, each of which makes a network: a command over two networks
-- has a group for each text, `survey`, which tells why texts make none, and `observe`, which reads two networks in an order of its own,
-- have no group, and all others have one
abbrev pub groups_of : CommandKind → List (List ℕ) → List (List (List ℕ))
groups_of Survey texts = []
groups_of Observe texts = []
groups_of Pair texts = map alone texts
groups_of PairScripts texts = map alone texts
groups_of PairCheck texts = map alone texts
groups_of PairRefute texts = map alone texts
groups_of _ texts = texts ∷ []

-- the commands over two networks
abbrev pub OverNetworks : CommandKind → Type 0
OverNetworks Pair = Unit {0}
OverNetworks PairScripts = Unit {0}
OverNetworks PairCheck = Unit {0}
OverNetworks PairRefute = Unit {0}
OverNetworks _ = ⊥

-- the commands over networks of all their configurations: all but `survey` and `observe`
abbrev pub AsksNetworks : CommandKind → Type 0
AsksNetworks Survey = ⊥
AsksNetworks Observe = ⊥
AsksNetworks _ = Unit {0}

-- the names of the texts of configurations, by the kind of the command: those of the files, or `sample`
abbrev pub names_for : CommandKind → List (List ℕ) → List (List ℕ)
names_for Sample configs = codes "sample" ∷ []
names_for _ configs = configs

abbrev pub text_names : Command → List (List ℕ)
text_names command = names_for command.kind command.configs

-- the commands that ask that every router is where a migration starts; `observe` asks it of the configurations of before
abbrev pub NeedsStart : CommandKind → Type 0
NeedsStart Prepare = ⊥
NeedsStart Delta = ⊥
NeedsStart Tables = ⊥
NeedsStart Design = ⊥
NeedsStart Survey = ⊥
NeedsStart Observe = ⊥
NeedsStart _ = Unit {0}
