use Rattle.std.proofs.Common.{◌≡◌, ◌∙◌, ◌++◌, ◌+◌, ℕ, List, IfOk, ap, codes, decimal, subst}
use Rattle.drawn_network.specs.Colors.{color_of}
use Rattle.drawn_network.proofs.Chains.{last_piece, two_pieces}
use Rattle.drawn_network.proofs.legend.with_wave_cell.Goals as goal

pub returns : goal.returns
returns c =
    let start = c.args.drawing in
    let d1 = c.in_ok-text.field-0 in
    let p1 : List ℕ = codes "<td bgcolor=\"" in
    let g1 : d1 ≡ start ++ p1 = c.in_ok-text.ensures in
    let s1 = p1 in
    let d2 = c.in_ok-text-2.field-0 in
    let p2 : List ℕ = color_of c.args.wave in
    let e2 = c.in_ok-text-2.ensures
    ∙ ap (λ (l : List ℕ). d1 ++ l) c.color_of.ensures in
    let g2 = two_pieces start d1 d2 s1 p2 g1 e2 in
    let s2 = s1 ++ p2 in
    let d3 = c.in_ok-text-3.field-0 in
    let p3 : List ℕ = codes "\">wave " in
    let g3 = two_pieces start d2 d3 s2 p3 g2 c.in_ok-text-3.ensures in
    let s3 = s2 ++ p3 in
    let d4 = c.in_ok-number.field-0 in
    let p4 : List ℕ = decimal (c.args.wave + 1) in
    let g4 = two_pieces start d3 d4 s3 p4 g3 c.in_ok-number.ensures in
    let s4 = s3 ++ p4 in
    let end : List ℕ = codes "</td>" in
    subst (λ (s : List ℕ). IfOk c.text-4.result (λ drawn. drawn ≡ s)) (last_piece start d4 s4 end g4) c.text-4.ensures
