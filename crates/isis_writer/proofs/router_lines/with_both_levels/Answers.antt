use Rattle.std.proofs.Common.{◌≡◌, ◌∙◌, [], ◌∷◌, List, ℕ, IfOk, codes, subst}
use Rattle.isis_writer.specs.RouterLines.{isis_metric_line}
use Rattle.printed_lines.proofs.TextSteps.{last_line, then_line}
use Rattle.isis_writer.proofs.router_lines.with_both_levels.Goals as goal

pub returns : goal.returns
returns c =
    let one = isis_metric_line c.args.metric (codes "level-1" ∷ []) in
    let two = isis_metric_line c.args.metric (codes "level-2" ∷ []) in
    let all = last_line c.in_ok-text.text c.in_ok-level_metric_line-2.field-0 two c.in_ok-level_metric_line-2.ensures
    ∙ then_line c.args.text c.in_ok-level_metric_line.field-0 one c.in_ok-text.text (two ∷ []) c.in_ok-level_metric_line.ensures c.in_ok-text.ensures in
    subst (λ (s : List ℕ). IfOk c.line-2.result (λ longer. longer ≡ s)) all c.line-2.ensures
