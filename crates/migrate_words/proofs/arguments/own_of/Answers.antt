use Rattle.std.proofs.Common.{arith}
use Rattle.std.proofs.lemmas.Grind.{common_steps}
use Rattle.std.proofs.Common.{Bor, List, ℕ}
use Rattle.std.proofs.lemmas.List.{map-append, take_all}
use Rattle.std.proofs.lemmas.Result.{err_from_is_err_and}
use Rattle.clap.specs.Words.{Text, found_of, rows_of}
use Rattle.migrate_words.proofs.ReadingFacts.{one_more_text, refused_whole, text_of_file}
use Rattle.migrate_words.proofs.arguments.own_of.Goals as goal

pub loop-file-init : goal.loop-file-init
loop-file-init c = rw c.new-all.ensures.items tt

pub returns-in_err-name : goal.returns-in_err-name
returns-in_err-name c =
    let p = err_from_is_err_and c.from_residual.result c.from_residual.ensures.1 in
    rw (p.1, p.2) (refused_whole (λ (text : Bor (List ℕ)). text.now) (λ (names : List Text). names) _ _ c.in_err-name.field-0.0
    (λ texts have. text_of_file
    (rows_of (found_of c.args.given.now)) c.args.own.now c.loop-file.file-index _ c.loop-file-test.true texts have)
    c.in_err-name.ensures)

pub loop-file-preserved : goal.loop-file-preserved
loop-file-preserved c = grind (arith, common_steps, map-append, one_more_text)

pub returns : goal.returns
returns c = grind (arith, common_steps, take_all)
