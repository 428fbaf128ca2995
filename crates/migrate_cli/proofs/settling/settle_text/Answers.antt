use Rattle.std.proofs.Common.{arith}
use Rattle.std.proofs.lemmas.Grind.{common_steps}
use Rattle.std.proofs.Common.{ℕ, List, subst}
use Rattle.design_file.specs.Answers.{RefusesText, SaysDesign}
use Rattle.migrate_cli.specs.Reading.{named_text}
use Rattle.migrate_cli.proofs.PrepareFacts.{design_refused, text_refused}
use Rattle.migrate_cli.proofs.settling.settle_text.Goals as goal

pub returns-in-Err : goal.returns-in-Err
returns-in-Err c =
    text_refused (named_text c.args.file.now c.args.design.now) c.args.net.now c.in-Err.refusal c.refuse_design.result
    (subst (λ (text : List ℕ). RefusesText text c.in-Err.refusal) c.as_slice.ensures c.in-Err.ensures.err) c.refuse_design.ensures

pub returns-in-Ok-settle : goal.returns-in-Ok-settle
returns-in-Ok-settle c = grind (arith, common_steps)

pub returns : goal.returns
returns c =
    let said = c.in-Ok.design in
    design_refused (named_text c.args.file.now c.args.design.now) c.args.net.now said c.in-Err-settle.refusal c.refuse_design-in-Err-settle.result
    (subst (λ (text : List ℕ). SaysDesign text said) c.as_slice.ensures c.in-Ok.ensures.ok) c.in-Err-settle.ensures.err c.refuse_design-in-Err-settle.ensures
