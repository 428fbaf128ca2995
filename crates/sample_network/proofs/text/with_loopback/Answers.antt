use Rattle.std.proofs.Common.{◌≡◌, ◌∙◌, [], ◌∷◌, List, ℕ, IfOk, ap, codes, subst}
use Rattle.sample_network.specs.SampleLinks.{loopback}
use Rattle.sample_network.specs.SampleTexts.{sample_address_line, sample_hostname_line, sample_interface_line, sample_run_line}
use Rattle.printed_lines.proofs.TextSteps.{last_line, then_line}
use Rattle.sample_network.proofs.text.with_loopback.Goals as goal

pub returns : goal.returns
returns c =
    let name = sample_hostname_line c.args.router in
    let head = sample_interface_line (codes "Loopback0") in
    let address = sample_address_line (loopback c.args.router) (codes "255.255.255.255") in
    let addresses : List (List ℕ) = address ∷ sample_run_line ∷ [] in
    let heads : List (List ℕ) = head ∷ addresses in
    let address_is = c.in_ok-address_line.ensures ∙ ap (λ a. sample_address_line a (codes "255.255.255.255")) c.loopback.ensures in
    let all = last_line c.in_ok-text-3.text c.in_ok-run_line.field-0 sample_run_line c.in_ok-run_line.ensures
    ∙ then_line c.in_ok-text-2.text c.in_ok-address_line.field-0 address c.in_ok-text-3.text (sample_run_line ∷ []) address_is c.in_ok-text-3.ensures
    ∙ then_line c.in_ok-text.text c.in_ok-interface_line.field-0 head c.in_ok-text-2.text addresses c.in_ok-interface_line.ensures c.in_ok-text-2.ensures
    ∙ then_line c.args.text c.in_ok-hostname_line.field-0 name c.in_ok-text.text heads c.in_ok-hostname_line.ensures c.in_ok-text.ensures in
    subst (λ (s : List ℕ). IfOk c.line-4.result (λ longer. longer ≡ s)) all c.line-4.ensures
