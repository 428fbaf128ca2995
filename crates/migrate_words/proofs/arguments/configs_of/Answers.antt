use Rattle.std.proofs.Common.{List, subst}
use Rattle.clap.specs.Words.{Text, found_of, rows_of}
use Rattle.migrate_words.specs.Asked.{HaveTexts}
use Rattle.migrate_words.specs.steps.Reading.{ReadsAs}
use Rattle.migrate_words.proofs.arguments.configs_of.Goals as goal

pub returns-in-Networks : goal.returns-in-Networks
returns-in-Networks c = rw c.in-Networks.is
    (subst (λ (names : List Text). ReadsAs (λ (all : List Text). all) (HaveTexts (rows_of (found_of c.args.given.now)) names) c.own_of.result)
    c.networks.ensures c.own_of.ensures)
