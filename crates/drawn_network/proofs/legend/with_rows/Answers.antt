use Rattle.std.proofs.Common.{◌≡◌, ◌++◌, ℕ, List, IfOk, subst}
use Rattle.drawn_network.specs.Legends.{area_rows, ends_row, said_text, wave_rows, wide_row}
use Rattle.drawn_network.proofs.Chains.{last_piece, two_pieces}
use Rattle.drawn_network.proofs.legend.with_rows.Goals as goal

pub returns : goal.returns
returns c =
    let start = c.args.drawing in
    let told = c.args.legend.now in
    let d1 = c.in_ok-drawing.drawing in
    let p1 : List ℕ = wide_row c.args.columns (said_text told.said.now) in
    let g1 : d1 ≡ start ++ p1 = c.in_ok-drawing.ensures in
    let s1 = p1 in
    let d2 = c.in_ok-drawing-2.drawing in
    let p2 : List ℕ = wave_rows c.args.columns told.waves in
    let g2 = two_pieces start d1 d2 s1 p2 g1 c.in_ok-drawing-2.ensures in
    let s2 = s1 ++ p2 in
    let d3 = c.in_ok-drawing-3.drawing in
    let p3 : List ℕ = area_rows c.args.columns told.areas.now in
    let g3 = two_pieces start d2 d3 s2 p3 g2 c.in_ok-drawing-3.ensures in
    let s3 = s2 ++ p3 in
    let end : List ℕ = ends_row c.args.columns told.has_links in
    subst (λ (s : List ℕ). IfOk c.with_ends_row.result (λ drawn. drawn ≡ s)) (last_piece start d3 s3 end g3) c.with_ends_row.ensures
