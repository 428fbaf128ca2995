use Rattle.std.proofs.lemmas.List.{get_or_default}
use Rattle.survey_report.proofs.FaultLineFacts.{fault_more}
use Rattle.survey_report.proofs.fault_lines.add_faults.Goals as goal

pub loop-fault-preserved : goal.loop-fault-preserved
loop-fault-preserved c =
    let both =
    fault_more c.args.faults.now c.args.shown.now c.args.name.now c.loop-fault.fault-index _ c.args.text.now.items c.loop-fault.text.items
    c.add_fault.new.text.items c.loop-fault.rest.now c.from_line-rest.result.now c.requires c.loop-fault-test.true
    (get_or_default c.args.faults.now c.loop-fault.fault-index _ _ c.loop-fault-test.true) c.loop-fault.invariant.text
    c.loop-fault.invariant.left c.from_line-rest.ensures c.in_ok-add_fault.ensures in
    record { text = both.0; left = both.1 }
