use Rattle.std.proofs.Common.{◌≡◌, ◌∙◌, [], ◌∷◌, ◌++◌, List, ℕ, IfOk, ap, subst}
use Rattle.isis_writer.specs.RouterLines.{circuit_lines, interface_head, level_metric_lines, isis_metric_line, run_lines}
use Rattle.printed_lines.proofs.TextSteps.{then_line, then_lines}
use Rattle.isis_writer.proofs.router_lines.with_interface.Goals as goal

pub returns : goal.returns
returns c =
    let interface = c.args.interface.now in
    let levels = level_metric_lines c.args.old interface.metric in
    let metrics : List (List ℕ) = isis_metric_line interface.metric [] ∷ levels in
    let circuits = circuit_lines c.args.old interface ++ metrics in
    let runs = run_lines interface.passive ++ circuits in
    let head = c.in_ok-interface_head.ensures ∙ ap interface_head c.as_slice.ensures in
    let all = then_line c.in_ok-text-3.text c.in_ok-metric_line.field-0 (isis_metric_line interface.metric []) c.in_ok-text-4.text levels
    c.in_ok-metric_line.ensures c.in_ok-text-4.ensures
    ∙ then_lines c.in_ok-text-2.text c.in_ok-text-3.text (circuit_lines c.args.old interface) metrics c.in_ok-text-3.ensures
    ∙ then_lines c.in_ok-text.text c.in_ok-text-2.text (run_lines interface.passive) circuits c.in_ok-text-2.ensures
    ∙ then_line c.args.text c.in_ok-interface_head.field-0 (interface_head interface.name) c.in_ok-text.text runs head c.in_ok-text.ensures in
    subst (λ (s : List ℕ). IfOk c.with_level_metrics.result (λ longer. longer ≡ s)) all c.with_level_metrics.ensures
