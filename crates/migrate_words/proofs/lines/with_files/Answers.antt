use Rattle.std.proofs.Common.{subst}
use Rattle.clap.specs.Words.{Shape}
use Rattle.migrate_words.specs.steps.LineSteps.{IsLine}
use Rattle.migrate_words.proofs.LineFacts.{no_arguments, one_more_file, whole_line}
use Rattle.migrate_words.proofs.lines.with_files.Goals as goal

pub loop-file-init : goal.loop-file-init
loop-file-init c = λ shape line. subst (λ (s : Shape). IsLine s c.args.line) (no_arguments shape) line

pub loop-file-preserved : goal.loop-file-preserved
loop-file-preserved c = λ shape line.
    subst (λ (s : Shape). IsLine s c.in_ok-line.line)
    (one_more_file shape c.args.files.now c.loop-file.file-index _ c.loop-file-test.true)
    (c.in_ok-line.ensures _ _ (c.loop-file.invariant shape line) c.one_text.ensures)

pub returns : goal.returns
returns c = λ shape line. subst (λ (s : Shape). IsLine s c.loop-file.line)
    (whole_line shape c.args.files.now c.loop-file.file-index c.loop-file-test.false) (c.loop-file.invariant shape line)
