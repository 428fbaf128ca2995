use Rattle.std.proofs.Common.{◌≡◌, take}
use Rattle.std.specs.List.{flat_map}
use Rattle.survey_report.specs.SurveyFiles.{FileFaults}
use Rattle.survey_report.proofs.fault_lines.all_faults.Given as goal

abbrev pub invariant-loop-one : goal.invariant-loop-one
invariant-loop-one l = l.all.items ≡ flat_map (λ (one : FileFaults). one.faults) (take l.one-index l.found)
