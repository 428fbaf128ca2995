use Rattle.std.proofs.Common.{◌∙◌, ap, map, string_bytes, sym, subst}
use Rattle.clap.specs.Words.{App, HasKind, fault_of, is_simple, is_simple_and_free, kind_of, subcommand_of}
use Rattle.migrate_words.proofs.LineFacts.{line_is_simple, line_is_simple_and_free}
use Rattle.migrate_words.proofs.AnswerFacts.{answer_of_matches, refusal_of_error}
use Rattle.migrate_words.proofs.reading.read_command.Goals as goal

pub returns-in-Ok-try_get_matches_from : goal.returns-in-Ok-try_get_matches_from
returns-in-Ok-try_get_matches_from c =
    let line = c.in-Ok.ensures.0 in
    let words = map string_bytes c.args.words.now in
    let parsed = c.in-Ok-try_get_matches_from.ensures in
    answer_of_matches words c.in-Ok-try_get_matches_from.matches c.entered.result
    (sym (ap (λ (a : App). fault_of a words) line) ∙ parsed.kinds (ap is_simple_and_free line ∙ line_is_simple_and_free))
    ((parsed.matches (ap is_simple line ∙ line_is_simple)).1 ∙ ap (λ (a : App). subcommand_of a words) line) c.entered.ensures

pub returns-in-Err-try_get_matches_from : goal.returns-in-Err-try_get_matches_from
returns-in-Err-try_get_matches_from c =
    let line = c.in-Ok.ensures.0 in
    let words = map string_bytes c.args.words.now in
    let error = c.in-Err-try_get_matches_from.error in
    let fails = c.in-Err-try_get_matches_from.ensures.kinds (ap is_simple_and_free line ∙ line_is_simple_and_free) in
    refusal_of_error words (kind_of error) c.told.result
    (subst (λ (a : App). HasKind (fault_of a words) error) line fails) c.told.ensures
