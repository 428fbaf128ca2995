-- The network of a command has a router: its words name a text of configurations at least, and a text has a configuration at least.
use Rattle.std.proofs.lemmas.Grind.{common_steps}
use Rattle.std.proofs.Common.{◌≡◌, ◌∙◌, ℕ, ◌+◌, ◌<◌, List, [], ◌∷◌, length, ap, arith}
use Rattle.std.proofs.lemmas.List.{length-append}
use Rattle.std.proofs.lemmas.List.Sorted.{length_permutation}
use Rattle.ios_reader.proofs.InsertedFacts.{some_configuration}
use Rattle.ios_reader.specs.Texts.{ReadsText}
use Rattle.net_model.specs.Configuration.{Configuration}
use Rattle.net_model.specs.Network.{Network}
use Rattle.net_model.specs.Refusals.{MakeNetwork}
use Rattle.migrate_words.specs.Asked.{AreConfigsInRange, IsInRange}
use Rattle.migrate_words.specs.Usages.{usage_of}
use Rattle.migrate_words.specs.declared.command.Command.{Command}
use Rattle.migrate_words.specs.declared.command.CommandKind.{CommandKind}
use Rattle.migrate_words.specs.declared.command.CommandKind.TheVariants.{Pair, PairScripts, PairCheck, PairRefute}
use Rattle.migrate_cli.specs.CommandFiles.{OverNetworks, names_for, text_names}
use Rattle.isis_writer.specs.ReadTexts.{ReadsTexts}

-- a command has a text of configurations
names_some : (kind : CommandKind) (configs : List (List ℕ)) → AreConfigsInRange (usage_of kind).configs configs → 0 < length (names_for kind configs)
names_some kind configs range = grind (arith, common_steps)

-- which has a configuration
configs_some : (texts : List (List ℕ)) (configs : List Configuration) → 0 < length texts → ReadsTexts texts configs → 0 < length configs
configs_some [] configs some read = absurd (omega (arith, some))
configs_some (text ∷ texts) configs some read =
    let first = some_configuration text read.one read.reads in
    let all : length configs ≡ length read.one + length read.others = ap length read.all ∙ length-append read.one read.others in
    omega (arith, first, all)

pub net_has_router : (command : Command) (texts : List (List ℕ)) (configs : List Configuration) (net : Network) → IsInRange command →
    length (text_names command) ≡ length texts → ReadsTexts texts configs → MakeNetwork configs net → 0 < length net
net_has_router command texts configs net range each read make =
    let names = names_some command.kind command.configs range.configs in
    let some = configs_some texts configs (omega (arith, names, each)) read in
    let same = length_permutation configs net make.network.same in
    omega (arith, some, same)

-- so has that of a text
pub first_has_router : (text : List ℕ) (configs : List Configuration) (net : Network) → ReadsText text configs → MakeNetwork configs net →
    0 < length net
first_has_router text configs net reads make = grind (arith, common_steps, length_permutation, some_configuration)

-- a command over two networks has two names
pub names_two : (command : Command) → OverNetworks command.kind → IsInRange command → length (text_names command) ≡ 2
names_two command over range = by_kind command.kind command.configs over range.configs
  where
    by_kind : (kind : CommandKind) (configs : List (List ℕ)) → OverNetworks kind → AreConfigsInRange (usage_of kind).configs configs →
        length (names_for kind configs) ≡ 2
    by_kind Pair configs over two = two
    by_kind PairScripts configs over two = two
    by_kind PairCheck configs over two = two
    by_kind PairRefute configs over two = two
    by_kind _ configs over two = absurd over
