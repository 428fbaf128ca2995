use Rattle.std.proofs.Common.{◌≡◌, ◌∙◌, [], ◌∷◌, List, ℕ, IfOk, codes, subst}
use Rattle.sample_network.specs.SampleTexts.{sample_title_line}
use Rattle.printed_lines.proofs.TextSteps.{last_line, then_line}
use Rattle.sample_network.proofs.text.with_isis.Goals as goal

pub returns : goal.returns
returns c =
    let head = codes "router isis" in
    let title = sample_title_line c.args.router in
    let levels = codes " is-type level-2-only" in
    let style = codes " metric-style wide" in
    let distance = codes " distance 255" in
    let styles : List (List ℕ) = style ∷ distance ∷ [] in
    let types : List (List ℕ) = levels ∷ styles in
    let titles : List (List ℕ) = title ∷ types in
    let all = last_line c.in_ok-text-4.text c.in_ok-start-4.field-0 distance c.in_ok-start-4.ensures
    ∙ then_line c.in_ok-text-3.text c.in_ok-start-3.field-0 style c.in_ok-text-4.text (distance ∷ []) c.in_ok-start-3.ensures c.in_ok-text-4.ensures
    ∙ then_line c.in_ok-text-2.text c.in_ok-start-2.field-0 levels c.in_ok-text-3.text styles c.in_ok-start-2.ensures c.in_ok-text-3.ensures
    ∙ then_line c.in_ok-text.text c.in_ok-title_line.field-0 title c.in_ok-text-2.text types c.in_ok-title_line.ensures c.in_ok-text-2.ensures
    ∙ then_line c.args.text c.in_ok-start.field-0 head c.in_ok-text.text titles c.in_ok-start.ensures c.in_ok-text.ensures in
    subst (λ (s : List ℕ). IfOk c.line-5.result (λ longer. longer ≡ s)) all c.line-5.ensures
