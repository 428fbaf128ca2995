use Rattle.std.proofs.Common.{◌≡◌, ◌∙◌, ◌<◌, ◌++◌, ℕ, List, ap, arith, codes, length, nat_lt, subst}
use Rattle.net_model.specs.RouterNames.{names_of}
use Rattle.order_core.specs.Rankings.{wave_count}
use Rattle.drawn_network.specs.Legends.{legend_line}
use Rattle.drawn_network.specs.LinkEnds.{AreLinkAreas, Link, links_among, links_of}
use Rattle.drawn_network.specs.LinkLines.{all_link_lines}
use Rattle.drawn_network.specs.Marks.{fault_marked}
use Rattle.drawn_network.specs.Pictures.{edge_look, graph_begin, graph_look, has_links, node_look}
use Rattle.drawn_network.specs.RingLines.{mark_lines}
use Rattle.drawn_network.specs.RouterLines.{all_wave_lines}
use Rattle.drawn_network.proofs.WaveCounts.{has_waves}
use Rattle.drawn_network.proofs.picture.picture_text.Goals as goal

pub with_legend-requires : goal.with_legend-requires
with_legend-requires c =
    let some : 0 < wave_count c.args.waves.now = has_waves c.args.waves.now c.ranks-ranks.ensures.some in
    omega (arith, some, c.count.ensures)

pub returns : goal.returns
returns c =
    let net = c.args.net.now in
    let ranks = c.args.waves.now in
    let said = c.args.said.now in
    let fault = fault_marked c.args.mark in
    let names = names_of net in
    let target = c.fault_target.result in
    let areas = c.in_ok-areas.areas.items in
    let links : c.in_ok-links.links.items ≡ links_of net = c.in_ok-links.ensures ∙ ap links_among
    (c.as_slice.ensures.value ∙ c.in_ok-ends.ensures) in
    let many : c.len.result ≡ length (links_of net) =
    omega (arith, c.len.ensures, c.in_ok-links.links.ok.0, ap (λ (all : List Link). length all) links) in
    let looks = c.in_ok-with_looks.ensures ∙ ap (λ (l : List ℕ). l ++ graph_begin ++ graph_look ++ node_look ++ edge_look)
    c.new.ensures in
    let legend = c.in_ok-drawing.ensures
    ∙ (λ i. c.in_ok-with_looks.field-0 ++ legend_line said (c.count.ensures i) (c.as_slice-3.ensures.value i) (nat_lt 0 (many i)))
    ∙ ap (λ (l : List ℕ). l ++ legend_line said (wave_count ranks) areas (has_links net)) looks in
    let waves = c.in_ok-drawing-2.ensures ∙ ap (λ (l : List ℕ). l ++ all_wave_lines net fault target ranks) legend in
    let lines = c.in_ok-drawing-3.ensures
    ∙ (λ i. c.in_ok-drawing-2.drawing ++ all_link_lines names (c.as_slice-4.ensures.value i)
    ((c.as_slice-5.ensures.value ∙ links) i))
    ∙ ap (λ (l : List ℕ). l ++ all_link_lines names areas (links_of net)) waves in
    let arcs = c.in_ok-with_fault.ensures ∙ ap (λ (l : List ℕ). l ++ mark_lines names fault) lines in
    record {
      target = target;
      target_is = c.fault_target.ensures;
      areas = areas;
      areas_are = subst (λ (all : List Link). AreLinkAreas all areas) (c.as_slice-2.ensures.value ∙ links) c.in_ok-areas.ensures;
      text_is = c.finish.ensures ∙ c.in_ok-drawing-4.ensures ∙ ap (λ (l : List ℕ). l ++ codes "}\n") arcs;
    }
