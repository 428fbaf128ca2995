use Rattle.std.proofs.lemmas.Grind.{common_steps}
use Rattle.std.proofs.Common.{◌≡◌, ◌<◌, ◌≤◌, ◌∙◌, ℕ, List, [], All, Err, IfOk, Ok, ap, arith, length, map, subst, sym}
use Rattle.std.specs.Borrow.{Bor}
use Rattle.std.proofs.lemmas.List.{length-map}
use Rattle.std.proofs.lemmas.Result.{IfOk-weaker}
use Rattle.migration_report.specs.declared.outcome.Outcome.TheVariants.{Refused}
use Rattle.migration_report.specs.declared.refusal.Refusal.TheVariants.{Files}
use Rattle.migrate_cli.specs.Answers.{AsksForFew, IsAnswer, MayAsk}
use Rattle.migrate_cli.specs.Answers.IsAnswer.{judged, many_files}
use Rattle.migrate_cli.specs.Calls.{Call, call_of}
use Rattle.migrate_cli.specs.CommandFiles.{config_texts, files_of, own_texts, given_texts}
use Rattle.migrate_cli.specs.steps.FilesRead.{file_of}
use Rattle.migrate_cli.specs.Outcomes.{IsOutcome}
use Rattle.migrate_cli.specs.Reading.{AreRead, AreWithin, File, file_names, to_read}
use Rattle.migrate_cli.specs.steps.Stops.{HasRead}
use Rattle.migrate_cli.proofs.AnswerFacts.{answered, answered_at_once, may_ask_all, reads_end, stop_answer, stop_reads_end}
use Rattle.migrate_cli.proofs.FileFacts.{All-mapped, small_files}
use Rattle.migrate_cli.proofs.run_call.decide_command.Goals as goal

pub returns-then-number-gt-FILES_MOST-clause-answer : goal.returns-then-number-gt-FILES_MOST-clause-answer
returns-then-number-gt-FILES_MOST-clause-answer g c = λ words asks.
    let command = c.args.command.now in
    let call : Call = call_of words (g.F.Files.content c.args.files.now) in
    let names = c.as_slice-number.result.now in
    let bytes : Bor (List ℕ) → List ℕ = λ name. name.now in
    let count : length names ≡ length command.configs = sym (length-map names bytes) ∙ ap length c.as_slice-number.ensures in
    let many : 200 < length command.configs = grind (arith, count) in
    answered_at_once call (g.F.Files.asked c.args.files.now) (Ok _)
    (subst (λ n. IsAnswer call [] (Refused (Files n))) (sym count) (many_files command asks many))

pub returns-in_default-clause-answer : goal.returns-in_default-clause-answer
returns-in_default-clause-answer g c = grind (arith, common_steps, answered_at_once)

pub read_texts-requires : goal.read_texts-requires
read_texts-requires g c =
    let command = c.args.command.now in
    let files : map file_of c.as_slice.result.now ≡ files_of command = ap (map file_of) c.as_slice.ensures.value ∙ c.in-Ok.ensures in
    All-mapped (λ (file : File). file.most ≤ 16777216) file_of c.as_slice.result.now
    (subst (All (λ (file : File). file.most ≤ 16777216)) (sym files) (small_files command))

pub returns-in-Ok-read_texts-clause-answer : goal.returns-in-Ok-read_texts-clause-answer
returns-in-Ok-read_texts-clause-answer g c = λ words asks.
    let command = c.args.command.now in
    let content = g.F.Files.content c.args.files.now in
    let call : Call = call_of words content in
    let before = g.F.Files.asked c.args.files.now in
    let after = g.F.Files.asked c.read_texts.new.files in
    let names = c.as_slice-number.result.now in
    let bytes : Bor (List ℕ) → List ℕ = λ name. name.now in
    let count : length names ≡ length command.configs = sym (length-map names bytes) ∙ ap length c.as_slice-number.ensures in
    let few : length command.configs ≤ 200 = grind (arith, count) in
    let ask : AsksForFew words command = record { asked = asks; few = few } in
    let files : map file_of c.as_slice.result.now ≡ files_of command = ap (map file_of) c.as_slice.ensures.value ∙ c.in-Ok.ensures in
    let has : HasRead (to_read content (files_of command)) before after (Ok c.in-Ok-read_texts.texts) =
    subst (λ some. HasRead (to_read content some) before after (Ok c.in-Ok-read_texts.texts)) files c.in-Ok-read_texts.ensures.read in
    let texts = c.into_vec.result.items in
    let same : texts ≡ c.in-Ok-read_texts.texts.all = c.into_vec.ensures in
    let read : AreRead content (files_of command) texts = subst (AreRead content (files_of command)) (sym same) has.reads.1 in
    let within : AreWithin (files_of command) texts = subst (AreWithin (files_of command)) (sym same) has.reads.2 in
    let r = c.judge.result in
    answered call before after has.asked r has.asked_is
    (subst (λ asked. IfOk r (IsAnswer call asked)) (sym has.reads.0)
    (IfOk-weaker r (IsOutcome command (given_texts (own_texts command texts) (config_texts command texts))) (IsAnswer call (file_names (files_of command)))
    (λ outcome is. judged command texts outcome ask read within is) c.judge.ensures))
    (subst (MayAsk call) (sym has.reads.0) (may_ask_all call command texts ask read within))

pub returns-in-Ok-read_texts-clause-reads : goal.returns-in-Ok-read_texts-clause-reads
returns-in-Ok-read_texts-clause-reads g c = reads_end _ _ c.judge.result _ _ c.in-Ok-read_texts.ensures.failed c.judge.ensures

pub returns-clause-answer : goal.returns-clause-answer
returns-clause-answer g c = λ words asks.
    let command = c.args.command.now in
    let content = g.F.Files.content c.args.files.now in
    let call : Call = call_of words content in
    let before = g.F.Files.asked c.args.files.now in
    let after = g.F.Files.asked c.read_texts.new.files in
    let names = c.as_slice-number.result.now in
    let bytes : Bor (List ℕ) → List ℕ = λ name. name.now in
    let count : length names ≡ length command.configs = sym (length-map names bytes) ∙ ap length c.as_slice-number.ensures in
    let few : length command.configs ≤ 200 = grind (arith, count) in
    let ask : AsksForFew words command = record { asked = asks; few = few } in
    let files : map file_of c.as_slice.result.now ≡ files_of command = ap (map file_of) c.as_slice.ensures.value ∙ c.in-Ok.ensures in
    let stop = c.in-Err.stop in
    let has : HasRead (to_read content (files_of command)) before after (Err stop) =
    subst (λ some. HasRead (to_read content some) before after (Err stop)) files c.in-Err.ensures.read in
    stop_answer call before after command ask stop c.refuse_stop.result has c.refuse_stop.ensures

pub returns-clause-reads : goal.returns-clause-reads
returns-clause-reads g c = stop_reads_end c.in-Err.stop c.refuse_stop.result _ _ c.in-Err.ensures.failed c.refuse_stop.ensures
