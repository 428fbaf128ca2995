use Rattle.std.proofs.Common.{◌≡◌, ◌∙◌, [], ◌∷◌, List, ℕ, IfOk, ap, codes, subst}
use Rattle.sample_network.specs.SampleLinks.{sample_cost, sample_metric}
use Rattle.sample_network.specs.SampleTexts.{sample_address_line, sample_cost_line, sample_interface_line, sample_metric_line, sample_run_line}
use Rattle.printed_lines.proofs.TextSteps.{last_line, then_line}
use Rattle.sample_network.proofs.text.with_link.Goals as goal

pub returns : goal.returns
returns c =
    let head = sample_interface_line c.args.end.now.name.now in
    let address = sample_address_line c.args.end.now.address (codes "255.255.255.252") in
    let cost = sample_cost_line (sample_cost c.args.routers c.args.end.now.link) in
    let metric = sample_metric_line (sample_metric c.args.routers c.args.end.now.link) in
    let runs : List (List ℕ) = sample_run_line ∷ metric ∷ [] in
    let costs : List (List ℕ) = cost ∷ runs in
    let addresses : List (List ℕ) = address ∷ costs in
    let cost_is = c.in_ok-cost_line.ensures ∙ ap sample_cost_line c.cost_of.ensures in
    let metric_is = c.in_ok-metric_line.ensures ∙ ap sample_metric_line c.metric_of.ensures in
    let all = last_line c.in_ok-text-4.text c.in_ok-metric_line.field-0 metric metric_is
    ∙ then_line c.in_ok-text-3.text c.in_ok-run_line.field-0 sample_run_line c.in_ok-text-4.text (metric ∷ [])
    c.in_ok-run_line.ensures c.in_ok-text-4.ensures
    ∙ then_line c.in_ok-text-2.text c.in_ok-cost_line.field-0 cost c.in_ok-text-3.text runs cost_is c.in_ok-text-3.ensures
    ∙ then_line c.in_ok-text.text c.in_ok-address_line.field-0 address c.in_ok-text-2.text costs c.in_ok-address_line.ensures c.in_ok-text-2.ensures
    ∙ then_line c.args.text c.in_ok-interface_line.field-0 head c.in_ok-text.text addresses c.in_ok-interface_line.ensures c.in_ok-text.ensures in
    subst (λ (s : List ℕ). IfOk c.line-5.result (λ longer. longer ≡ s)) all c.line-5.ensures
