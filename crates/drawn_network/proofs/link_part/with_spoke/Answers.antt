use Rattle.std.proofs.Common.{◌≡◌, ◌∙◌, ◌++◌, ℕ, List, IfOk, ap, codes, subst}
use Rattle.net_model.specs.RouterNames.{names_of}
use Rattle.printed_lines.specs.Words.{prefix_word, router_word}
use Rattle.drawn_network.specs.Colors.{line_look}
use Rattle.drawn_network.specs.LinkEnds.{LinkEnd}
use Rattle.drawn_network.specs.LinkLines.{end_label}
use Rattle.drawn_network.specs.Quotes.{quoted}
use Rattle.drawn_network.proofs.Chains.{last_piece, two_pieces}
use Rattle.drawn_network.proofs.link_part.with_spoke.Goals as goal

pub returns : goal.returns
returns c =
    let start = c.args.drawing in
    let names = names_of c.args.net.now in
    let one = c.args.end.now in
    let d1 = c.in_ok-text.field-0 in
    let p1 : List ℕ = codes "  " in
    let g1 : d1 ≡ start ++ p1 = c.in_ok-text.ensures in
    let s1 = p1 in
    let d2 = c.in_ok-drawing.drawing in
    let p2 : List ℕ = quoted (router_word names one.router) in
    let e2 = c.in_ok-drawing.ensures
    ∙ ap (λ (l : List ℕ). d1 ++ l) (ap quoted (c.router_name.ensures ∙ ap (λ (e : LinkEnd). router_word names e.router)
    c.end.view_is)) in
    let g2 = two_pieces start d1 d2 s1 p2 g1 e2 in
    let s2 = s1 ++ p2 in
    let d3 = c.in_ok-text-2.field-0 in
    let p3 : List ℕ = codes " -> \"" in
    let g3 = two_pieces start d2 d3 s2 p3 g2 c.in_ok-text-2.ensures in
    let s3 = s2 ++ p3 in
    let d4 = c.in_ok-drawing-2.drawing in
    let p4 : List ℕ = prefix_word one.subnet in
    let e4 = c.in_ok-drawing-2.ensures
    ∙ ap (λ (l : List ℕ). d3 ++ l) (ap (λ (e : LinkEnd). prefix_word e.subnet) c.end.view_is) in
    let g4 = two_pieces start d3 d4 s3 p4 g3 e4 in
    let s4 = s3 ++ p4 in
    let d5 = c.in_ok-text-3.field-0 in
    let p5 : List ℕ = codes "\" [taillabel=\"" in
    let g5 = two_pieces start d4 d5 s4 p5 g4 c.in_ok-text-3.ensures in
    let s5 = s4 ++ p5 in
    let d6 = c.in_ok-drawing-3.drawing in
    let p6 : List ℕ = end_label one.interface in
    let e6 = c.in_ok-drawing-3.ensures
    ∙ ap (λ (l : List ℕ). d5 ++ l) (ap (λ (e : LinkEnd). end_label e.interface) c.end.view_is) in
    let g6 = two_pieces start d5 d6 s5 p6 g5 e6 in
    let s6 = s5 ++ p6 in
    let d7 = c.in_ok-text-4.field-0 in
    let p7 : List ℕ = codes "\", " in
    let g7 = two_pieces start d6 d7 s6 p7 g6 c.in_ok-text-4.ensures in
    let s7 = s6 ++ p7 in
    let d8 = c.in_ok-with_look.field-0 in
    let p8 : List ℕ = line_look c.args.areas.now one.interface.area in
    let e8 = c.in_ok-with_look.ensures
    ∙ ap (λ (l : List ℕ). d7 ++ l) (ap (λ (e : LinkEnd). line_look c.args.areas.now e.interface.area) c.end.view_is) in
    let g8 = two_pieces start d7 d8 s7 p8 g7 e8 in
    let s8 = s7 ++ p8 in
    let end : List ℕ = codes ", len=1.4];\n" in
    subst (λ (s : List ℕ). IfOk c.text-5.result (λ drawn. drawn ≡ s)) (last_piece start d8 s8 end g8) c.text-5.ensures
