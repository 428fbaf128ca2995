use Rattle.std.proofs.Common.{arith}
use Rattle.std.proofs.lemmas.Grind.{common_steps}
use Rattle.std.proofs.Common.{ap, sym, ◌∙◌}
use Rattle.ios_lines.specs.FaultOrder.{least_fault}
use Rattle.ios_reader.specs.steps.Parts.{Reading}
use Rattle.ios_reader.proofs.LeastFaults.{none_least}
use Rattle.ios_reader.proofs.ReadFacts.{text_read, text_refused}
use Rattle.ios_reader.proofs.reader.read_configs.Goals as goal

pub returns-in-Some-clause-refused : goal.returns-in-Some-clause-refused
returns-in-Some-clause-refused c =
    text_refused c.args.text.now c.in_ok-reading.reading c.in-Some.fault c.in_ok-reading.ensures
    (sym (c.in-Some.ensures ∙ ap least_fault (c.as_slice.ensures.value ∙ ap (λ (r : Reading). r.faults) c.reading.view_is)))

pub returns-in-None-clause-read : goal.returns-in-None-clause-read
returns-in-None-clause-read c = grind (arith, common_steps, none_least, text_read)
