use Rattle.survey_report.proofs.ReadingFacts.{read_next}
use Rattle.survey_report.proofs.reading.read_files.Goals as goal

pub loop-file-preserved : goal.loop-file-preserved
loop-file-preserved c =
    read_next c.args.files.now c.loop-file.file-index c.file-item.result c.in_ok-read.read c.loop-file-test.true c.file-item.is
    (c.in_ok-read.ensures _ c.loop-file.invariant)
