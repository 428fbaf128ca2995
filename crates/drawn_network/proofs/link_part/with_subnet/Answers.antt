use Rattle.std.proofs.Common.{◌≡◌, ◌++◌, ℕ, List, IfOk, codes, subst}
use Rattle.printed_lines.specs.Words.{prefix_word}
use Rattle.drawn_network.proofs.Chains.{last_piece, two_pieces}
use Rattle.drawn_network.proofs.link_part.with_subnet.Goals as goal

pub returns : goal.returns
returns c =
    let start = c.args.drawing in
    let d1 = c.in_ok-text.field-0 in
    let p1 : List ℕ = codes "  \"" in
    let g1 : d1 ≡ start ++ p1 = c.in_ok-text.ensures in
    let s1 = p1 in
    let d2 = c.in_ok-prefix.field-0 in
    let p2 : List ℕ = prefix_word c.args.subnet in
    let g2 = two_pieces start d1 d2 s1 p2 g1 c.in_ok-prefix.ensures in
    let s2 = s1 ++ p2 in
    let end : List ℕ = codes "\" [shape=plaintext, style=\"\", fontsize=10];\n" in
    subst (λ (s : List ℕ). IfOk c.text-2.result (λ drawn. drawn ≡ s)) (last_piece start d2 s2 end g2) c.text-2.ensures
