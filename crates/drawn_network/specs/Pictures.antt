-- A picture of a network and of a list of waves, in the DOT of Graphviz, with what is decided of the list, and the fault if there
-- is one.
use Rattle.std.specs.Prelude.{◌≡◌, ℕ, nat_lt, Bool, List, ◌++◌, codes, length, Option, Some, None}
use Rattle.net_addr.specs.Addresses.{Block}
use Rattle.net_addr.specs.LongestMatches.{IsBestMatch}
use Rattle.net_model.specs.Network.{Network}
use Rattle.net_model.specs.RouterNames.{names_of}
use Rattle.order_core.specs.Rankings.{wave_count}
use Rattle.igp_theory.specs.Forwarding.{IsOriginated}
use Rattle.igp_theory.specs.Laws.{fault_address}
use Rattle.igp_theory.specs.Loops.{Fault}
use Rattle.drawn_network.specs.Legends.{legend_line}
use Rattle.drawn_network.specs.LinkEnds.{AreLinkAreas, links_of}
use Rattle.drawn_network.specs.LinkLines.{all_link_lines}
use Rattle.drawn_network.specs.RingLines.{mark_lines}
use Rattle.drawn_network.specs.RouterLines.{all_wave_lines}

-- what stands in every picture before the legend: how the whole, its nodes and its lines are drawn
abbrev pub graph_begin : List ℕ
graph_begin =
    codes "digraph network {\n  graph [layout=neato, start=1, normalize=true, overlap=false, overlap_shrink=false, splines=true];\n"

abbrev pub graph_look : List ℕ
graph_look = codes "  graph [fontname=\"Helvetica\", labelloc=t];\n"

abbrev pub node_look : List ℕ
node_look =
    codes "  node [shape=box, style=\"rounded,filled\", fillcolor=white, fontname=\"Helvetica\", fontsize=12, height=0.3, margin=\"0.12,0.06\"];\n"

abbrev pub edge_look : List ℕ
edge_look =
    codes "  edge [dir=none, color=\"#555555\", fontname=\"Helvetica\", fontsize=10, labeldistance=1.8, labelangle=-35, len=1.7];\n"

-- there are lines to be told of in the legend
abbrev pub has_links : Network → Bool
has_links net = nat_lt 0 (length (links_of net))

-- the text of a picture, where these are the target of the fault's address and the areas of the links
abbrev pub drawn_text : Network → List ℕ → List ℕ → Option Fault → Option Block → List ℕ → List ℕ
drawn_text net ranks said fault target areas =
    graph_begin ++ graph_look ++ node_look ++ edge_look ++ legend_line said (wave_count ranks) areas (has_links net)
    ++ all_wave_lines net fault target ranks ++ all_link_lines (names_of net) areas (links_of net)
    ++ mark_lines (names_of net) fault ++ codes "}\n"

-- the target of the fault's address
abbrev pub IsFaultTarget : Network → Option Fault → Option Block → Type 0
IsFaultTarget net None target = target ≡ None
IsFaultTarget net (Some fault) target = IsBestMatch (IsOriginated net) (fault_address fault) target

-- the picture of a network and a list of waves, given by the ranks of the routers, of which this is said, and maybe the fault
pub record IsPicture (net : Network) (ranks said : List ℕ) (fault : Option Fault) (text : List ℕ) : Type 0 where
  pub target : Option Block
  pub target_is : IsFaultTarget net fault target
  pub areas : List ℕ
  pub areas_are : AreLinkAreas (links_of net) areas
  pub text_is : text ≡ drawn_text net ranks said fault target areas
