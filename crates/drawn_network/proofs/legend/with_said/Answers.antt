use Rattle.std.proofs.Common.{◌≡◌, ◌++◌, ℕ, List, IfOk, codes, decimal, subst}
use Rattle.drawn_network.specs.Legends.{said_text}
use Rattle.drawn_network.proofs.Chains.{last_piece, two_pieces}
use Rattle.drawn_network.proofs.legend.with_said.Goals as goal

pub returns : goal.returns
returns c =
    let start = c.args.drawing in
    let d1 = c.in_ok-text.field-0 in
    let p1 : List ℕ = codes "<tr><td colspan=\"" in
    let g1 : d1 ≡ start ++ p1 = c.in_ok-text.ensures in
    let s1 = p1 in
    let d2 = c.in_ok-number.field-0 in
    let p2 : List ℕ = decimal c.args.columns in
    let g2 = two_pieces start d1 d2 s1 p2 g1 c.in_ok-number.ensures in
    let s2 = s1 ++ p2 in
    let d3 = c.in_ok-drawing.drawing in
    let p3 : List ℕ = codes "\">" in
    let g3 = two_pieces start d2 d3 s2 p3 g2 c.in_ok-drawing.ensures in
    let s3 = s2 ++ p3 in
    let d4 = c.in_ok-with_said_text.field-0 in
    let p4 : List ℕ = said_text c.args.said.now in
    let g4 = two_pieces start d3 d4 s3 p4 g3 c.in_ok-with_said_text.ensures in
    let s4 = s3 ++ p4 in
    let end : List ℕ = codes "</td></tr>" in
    subst (λ (s : List ℕ). IfOk c.text-3.result (λ drawn. drawn ≡ s)) (last_piece start d4 s4 end g4) c.text-3.ensures
