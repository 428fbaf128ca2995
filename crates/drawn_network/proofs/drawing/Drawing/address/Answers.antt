use Rattle.std.proofs.Common.{◌≡◌, ◌++◌, ◌∷◌, ◌/◌, ◌%◌, ◌^◌, ℕ, List, IfOk, decimal, subst}
use Rattle.drawn_network.proofs.Chains.{last_piece, two_pieces}
use Rattle.drawn_network.proofs.drawing.Drawing.address.Goals as goal

pub returns : goal.returns
returns c =
    let start = c.args.self in
    let d1 = c.in_ok-number.field-0 in
    let p1 : List ℕ = decimal (c.args.address / 2 ^ 24) in
    let g1 : d1 ≡ start ++ p1 = c.in_ok-number.ensures in
    let s1 = p1 in
    let d2 = c.in_ok-behind.field-0 in
    let p2 : List ℕ = 46 ∷ decimal (c.args.address / 2 ^ 16 % 256) in
    let g2 = two_pieces start d1 d2 s1 p2 g1 c.in_ok-behind.ensures in
    let s2 = s1 ++ p2 in
    let d3 = c.in_ok-behind-2.field-0 in
    let p3 : List ℕ = 46 ∷ decimal (c.args.address / 2 ^ 8 % 256) in
    let g3 = two_pieces start d2 d3 s2 p3 g2 c.in_ok-behind-2.ensures in
    let s3 = s2 ++ p3 in
    let end : List ℕ = 46 ∷ decimal (c.args.address % 256) in
    subst (λ (s : List ℕ). IfOk c.behind-3.result (λ drawn. drawn ≡ s)) (last_piece start d3 s3 end g3) c.behind-3.ensures
