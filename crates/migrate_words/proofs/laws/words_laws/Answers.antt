use Rattle.migrate_words.proofs.PlainLaws.{plain_words}
use Rattle.migrate_words.proofs.OneCommand.{one_command}
use Rattle.migrate_words.proofs.Ranges.{ranges}
use Rattle.migrate_words.proofs.TakenLaws.{numbers}
use Rattle.migrate_words.proofs.laws.words_laws.Goals as goal

pub returns-clause-plain : goal.returns-clause-plain
returns-clause-plain c = plain_words

pub returns-clause-one : goal.returns-clause-one
returns-clause-one c = one_command

pub returns-clause-ranges : goal.returns-clause-ranges
returns-clause-ranges c = ranges

pub returns-clause-numbers : goal.returns-clause-numbers
returns-clause-numbers c = numbers
