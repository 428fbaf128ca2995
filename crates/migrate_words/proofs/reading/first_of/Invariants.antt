use Rattle.std.proofs.Common.{◌≡◌, drop}
use Rattle.std.specs.List.{find}
use Rattle.std.specs.Str.{bytes_eq}
use Rattle.migrate_words.proofs.reading.first_of.Given as goal

-- what is left of the entries has the first one with the word
abbrev pub invariant-loop-entry : goal.invariant-loop-entry
invariant-loop-entry l = find (λ entry. bytes_eq entry.word.now l.word) (drop l.entry-index l.entries) ≡ find
    (λ entry. bytes_eq entry.word.now l.word) l.entries
