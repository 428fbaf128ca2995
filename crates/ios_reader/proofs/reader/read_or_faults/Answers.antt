use Rattle.std.proofs.Common.{◌≡◌, List, ap, subst, ◌∙◌}
use Rattle.ios_lines.specs.declared.fault.Fault.{Fault}
use Rattle.ios_sections.specs.TextLines.{lines_in}
use Rattle.ios_reader.specs.Faults.{faults_in}
use Rattle.ios_reader.specs.FaultyLines.{AreLeastOnLines}
use Rattle.ios_reader.specs.steps.Parts.{Reading}
use Rattle.ios_reader.proofs.FaultyLineFacts.{some_told}
use Rattle.ios_reader.proofs.reader.read_or_faults.Goals as goal

pub returns-clause-faulty : goal.returns-clause-faulty
returns-clause-faulty c =
    let all : List Fault = faults_in (lines_in c.args.text.now) in
    let told : List Fault = c.in_ok-told.told.items in
    let found : c.reading.inside.faults.items ≡ faults_in (lines_in c.args.text.now) =
    ap (λ (r : Reading). r.faults) c.reading.view_is ∙ c.in_ok-reading.ensures.faults in
    let are : AreLeastOnLines (faults_in (lines_in c.args.text.now)) c.in_ok-told.told.items =
    subst (λ (fs : List Fault). AreLeastOnLines fs c.in_ok-told.told.items) found c.in_ok-told.ensures in
    record {
      some = some_told all told are
          (λ e. let empty = c.are_none.ensures.1 (c.as_slice.ensures.value ∙ found ∙ e) in let some = c.if-are_none.false in cc);
      all = are;
    }
