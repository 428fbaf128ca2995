use Rattle.std.proofs.Common.{map, take}
use Rattle.clap.specs.Words.{found_of, rows_of}
use Rattle.migrate_words.specs.Asked.{HaveTexts}
use Rattle.migrate_words.specs.steps.Seen.{argument_names}
use Rattle.migrate_words.proofs.arguments.own_of.Given as goal

-- the files so far have these texts
abbrev pub invariant-loop-file : goal.invariant-loop-file
invariant-loop-file l = HaveTexts (rows_of (found_of l.given)) (argument_names (take l.file-index l.own))
    (map (λ name. name.now) l.all.items)
