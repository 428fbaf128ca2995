use Rattle.std.proofs.Common.{◌≡◌, ◌++◌, map, take}
use Rattle.printed_lines.specs.Texts.{text_of}
use Rattle.survey_report.specs.FaultTexts.{fault_line}
use Rattle.survey_report.specs.steps.Going.{LeavesFrom}
use Rattle.survey_report.proofs.fault_lines.add_faults.Given as goal

abbrev pub invariant-loop-fault : goal.invariant-loop-fault
invariant-loop-fault l = record {
  text : l.text.items ≡ l.initial.text.items ++ text_of (map (fault_line l.name l.shown) (take l.fault-index l.faults));
  left : LeavesFrom l.faults l.shown l.fault-index l.rest;
}
