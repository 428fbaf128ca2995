use Rattle.std.proofs.Common.{◌≡◌, map, take}
use Rattle.survey_report.specs.SurveyFiles.{survey_files}
use Rattle.survey_report.proofs.survey_file.survey_files.Given as goal

abbrev pub invariant-loop-i : goal.invariant-loop-i
invariant-loop-i l = l.files.items ≡ survey_files (take l.i (map (λ name. name.now) l.names)) (take l.i l.texts)
