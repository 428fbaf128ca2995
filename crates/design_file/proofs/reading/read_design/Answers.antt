use Rattle.std.proofs.Common.{arith}
use Rattle.std.proofs.lemmas.Grind.{common_steps}
use Rattle.std.proofs.Common.{List, Some, subst}
use Rattle.toml.specs.View.{table_view}
use Rattle.design_file.specs.steps.FaultLists.{IsToldAmong}
use Rattle.design_file.specs.declared.fault.Fault.{Fault}
use Rattle.design_file.proofs.AnswerLaws.{says_design, text_refused}
use Rattle.design_file.proofs.SoundLaws.{design_sound}
use Rattle.design_file.proofs.reading.read_design.Goals as goal

pub returns-in-Some-clause-err : goal.returns-in-Some-clause-err
returns-in-Some-clause-err c =
    text_refused c.args.text.now (table_view c.in_ok-document.document) c.in-Some.fault c.in_ok-document.ensures
    (subst (λ (l : List Fault). IsToldAmong l (Some c.in-Some.fault)) c.in_ok-document_faults.ensures c.in-Some.ensures)

pub returns-clause-ok : goal.returns-clause-ok
returns-clause-ok c = grind (arith, common_steps, says_design)

pub returns-clause-sound : goal.returns-clause-sound
returns-clause-sound c = design_sound (table_view c.in_ok-document.document) c.in_ok-said-in-None.field-0 c.in_ok-said-in-None.ensures.said
