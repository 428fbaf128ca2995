use Rattle.std.proofs.Common.{◌≡◌, ◌∙◌, ◌++◌, ℕ, List, IfOk, ap, codes, subst}
use Rattle.std.proofs.Common.{length}
use Rattle.drawn_network.specs.Legends.{columns_for, legend_rows}
use Rattle.drawn_network.proofs.Chains.{last_piece, two_pieces}
use Rattle.drawn_network.proofs.legend.with_legend.Goals as goal

pub returns : goal.returns
returns c =
    let start = c.args.drawing in
    let told = c.args.legend.now in
    let rows = λ (n : ℕ). legend_rows n told.said.now told.waves told.areas.now told.has_links in
    let d1 = c.in_ok-drawing.drawing in
    let p1 : List ℕ = codes "  label=<<table border=\"0\" cellspacing=\"3\">" in
    let g1 : d1 ≡ start ++ p1 = c.in_ok-drawing.ensures in
    let s1 = p1 in
    let d2 = c.in_ok-with_rows.field-0 in
    let p2 : List ℕ = rows (columns_for told.waves (length told.areas.now)) in
    let e2 = c.in_ok-with_rows.ensures
    ∙ ap (λ (l : List ℕ). d1 ++ l) (ap rows c.columns_for-columns.ensures.value) in
    let g2 = two_pieces start d1 d2 s1 p2 g1 e2 in
    let s2 = s1 ++ p2 in
    let end : List ℕ = codes "</table>>;\n" in
    subst (λ (s : List ℕ). IfOk c.text-2.result (λ drawn. drawn ≡ s)) (last_piece start d2 s2 end g2) c.text-2.ensures
