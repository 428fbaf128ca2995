use Rattle.std.proofs.Common.{◌≡◌, ◌∙◌, ◌++◌, ℕ, List, IfOk, ap, codes, subst}
use Rattle.drawn_network.specs.Colors.{color_of}
use Rattle.drawn_network.specs.Quotes.{quoted}
use Rattle.drawn_network.specs.RouterLines.{lacking_look, router_label, target_look}
use Rattle.drawn_network.proofs.Chains.{last_piece, two_pieces}
use Rattle.drawn_network.proofs.wave_part.with_line.Goals as goal

pub returns : goal.returns
returns c =
    let start = c.args.drawing in
    let marked = c.args.marked in
    let d1 = c.in_ok-text.field-0 in
    let p1 : List ℕ = codes "  " in
    let g1 : d1 ≡ start ++ p1 = c.in_ok-text.ensures in
    let s1 = p1 in
    let d2 = c.in_ok-quoted.field-0 in
    let p2 : List ℕ = quoted c.args.name.now in
    let g2 = two_pieces start d1 d2 s1 p2 g1 c.in_ok-quoted.ensures in
    let s2 = s1 ++ p2 in
    let d3 = c.in_ok-drawing.drawing in
    let p3 : List ℕ = codes " [label=\"" in
    let g3 = two_pieces start d2 d3 s2 p3 g2 c.in_ok-drawing.ensures in
    let s3 = s2 ++ p3 in
    let d4 = c.in_ok-with_label.field-0 in
    let p4 : List ℕ = router_label c.args.name.now c.args.wave marked.0 in
    let g4 = two_pieces start d3 d4 s3 p4 g3 c.in_ok-with_label.ensures in
    let s4 = s3 ++ p4 in
    let d5 = c.in_ok-text-2.field-0 in
    let p5 : List ℕ = codes "\", fillcolor=\"" in
    let g5 = two_pieces start d4 d5 s4 p5 g4 c.in_ok-text-2.ensures in
    let s5 = s4 ++ p5 in
    let d6 = c.in_ok-text-3.field-0 in
    let p6 : List ℕ = color_of c.args.wave in
    let e6 = c.in_ok-text-3.ensures
    ∙ ap (λ (l : List ℕ). d5 ++ l) c.color_of.ensures in
    let g6 = two_pieces start d5 d6 s5 p6 g5 e6 in
    let s6 = s5 ++ p6 in
    let d7 = c.in_ok-text-4.field-0 in
    let p7 : List ℕ = codes "\"" in
    let g7 = two_pieces start d6 d7 s6 p7 g6 c.in_ok-text-4.ensures in
    let s7 = s6 ++ p7 in
    let d8 = c.in_ok-text-5.field-0 in
    let p8 : List ℕ = lacking_look marked.0 in
    let e8 = c.in_ok-text-5.ensures
    ∙ ap (λ (l : List ℕ). d7 ++ l) c.lacking_look.ensures in
    let g8 = two_pieces start d7 d8 s7 p8 g7 e8 in
    let s8 = s7 ++ p8 in
    let d9 = c.in_ok-text-6.field-0 in
    let p9 : List ℕ = target_look marked.1 in
    let e9 = c.in_ok-text-6.ensures
    ∙ ap (λ (l : List ℕ). d8 ++ l) c.target_look.ensures in
    let g9 = two_pieces start d8 d9 s8 p9 g8 e9 in
    let s9 = s8 ++ p9 in
    let end : List ℕ = codes "];\n" in
    subst (λ (s : List ℕ). IfOk c.text-8.result (λ drawn. drawn ≡ s)) (last_piece start d9 s9 end g9) c.text-8.ensures
