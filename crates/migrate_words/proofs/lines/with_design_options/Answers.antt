use Rattle.std.proofs.Common.{List, ◌∷◌, [], append_assoc, subst}
use Rattle.std.proofs.lemmas.Result.{IfOk-weaker}
use Rattle.clap.specs.Words.{Rule}
use Rattle.migrate_words.specs.CommandLine.{area_option, level_option}
use Rattle.migrate_words.specs.steps.LineSteps.{IsLine}
use Rattle.migrate_words.proofs.lines.with_design_options.Goals as goal

pub returns : goal.returns
returns c = IfOk-weaker c.with_argument-2.result _ _
    (λ r more shape line. subst (λ (rules : List Rule). IsLine (record shape { rules = rules }) r)
    (append_assoc shape.rules (area_option ∷ []) (level_option ∷ []))
    (more _ level_option (c.in_ok-line.ensures shape area_option line c.area_option.ensures) c.level_option.ensures)) c.with_argument-2.ensures
