use Rattle.std.proofs.Common.{take}
use Rattle.survey_report.specs.steps.Reading.{AreFilesRead}
use Rattle.survey_report.proofs.reading.read_files.Given as goal

abbrev pub invariant-loop-file : goal.invariant-loop-file
invariant-loop-file l = AreFilesRead (take l.file-index l.files) l.read
