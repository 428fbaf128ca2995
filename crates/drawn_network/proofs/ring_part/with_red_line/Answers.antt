use Rattle.std.proofs.Common.{◌≡◌, ◌∙◌, ◌++◌, ◌∷◌, [], ℕ, List, IfOk, ap, codes, subst}
use Rattle.net_model.specs.RouterNames.{names_of}
use Rattle.printed_lines.specs.Words.{router_word}
use Rattle.drawn_network.specs.Quotes.{quoted}
use Rattle.drawn_network.specs.RingLines.{tag_mark}
use Rattle.drawn_network.proofs.Chains.{last_piece, two_pieces}
use Rattle.drawn_network.proofs.ring_part.with_red_line.Goals as goal

pub returns : goal.returns
returns c =
    let start = c.args.drawing in
    let names = names_of c.args.net.now in
    let d1 = c.in_ok-text.field-0 in
    let p1 : List ℕ = codes "  " in
    let g1 : d1 ≡ start ++ p1 = c.in_ok-text.ensures in
    let s1 = p1 in
    let d2 = c.in_ok-drawing.drawing in
    let p2 : List ℕ = quoted (router_word names c.args.turn.router) in
    let e2 = c.in_ok-drawing.ensures
    ∙ ap (λ (l : List ℕ). d1 ++ l) (ap quoted c.router_name.ensures) in
    let g2 = two_pieces start d1 d2 s1 p2 g1 e2 in
    let s2 = s1 ++ p2 in
    let d3 = c.in_ok-text-2.field-0 in
    let p3 : List ℕ = codes " -> " in
    let g3 = two_pieces start d2 d3 s2 p3 g2 c.in_ok-text-2.ensures in
    let s3 = s2 ++ p3 in
    let d4 = c.in_ok-drawing-2.drawing in
    let p4 : List ℕ = quoted (router_word names c.args.next) in
    let e4 = c.in_ok-drawing-2.ensures
    ∙ ap (λ (l : List ℕ). d3 ++ l) (ap quoted c.router_name-2.ensures) in
    let g4 = two_pieces start d3 d4 s3 p4 g3 e4 in
    let s4 = s3 ++ p4 in
    let d5 = c.in_ok-text-3.field-0 in
    let p5 : List ℕ = codes " [dir=forward, color=\"#d62728\", penwidth=2.5, label=\"" in
    let g5 = two_pieces start d4 d5 s4 p5 g4 c.in_ok-text-3.ensures in
    let s5 = s4 ++ p5 in
    let d6 = c.in_ok-byte.field-0 in
    let p6 : List ℕ = tag_mark c.args.turn.tag ∷ [] in
    let e6 = c.in_ok-byte.ensures
    ∙ ap (λ (l : List ℕ). d5 ++ l) (ap (λ (mark : ℕ). mark ∷ []) c.tag_mark.ensures) in
    let g6 = two_pieces start d5 d6 s5 p6 g5 e6 in
    let s6 = s5 ++ p6 in
    let end : List ℕ = codes "\", fontcolor=\"#d62728\", fontsize=14];\n" in
    subst (λ (s : List ℕ). IfOk c.text-4.result (λ drawn. drawn ≡ s)) (last_piece start d6 s6 end g6) c.text-4.ensures
