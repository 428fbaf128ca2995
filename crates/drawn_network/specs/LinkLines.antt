-- The lines of the links.
use Rattle.std.specs.Prelude.{ℕ, ◌==◌, Bool, true, false, if◌then◌else◌, List, [], ◌∷◌, ◌++◌, codes, decimal}
use Rattle.std.specs.Prelude.{Option, Some, None}
use Rattle.std.specs.List.{flat_map}
use Rattle.net_addr.specs.Addresses.{Block}
use Rattle.net_model.specs.declared.interface.Interface.{Interface}
use Rattle.printed_lines.specs.Words.{prefix_word, router_word}
use Rattle.drawn_network.specs.Colors.{line_look}
use Rattle.drawn_network.specs.LinkEnds.{Link, LinkEnd}
use Rattle.drawn_network.specs.Quotes.{quoted}

-- ---- what stands at an end ----

-- the OSPF cost of an interface, a dash without OSPF
abbrev pub cost_word : Option ℕ → ℕ → List ℕ
cost_word None cost = codes "-"
cost_word (Some _) cost = decimal cost

-- its IS-IS metric, both where the levels have two, a dash without IS-IS
abbrev pub metric_word : Bool → Bool → ℕ → ℕ → List ℕ
metric_word true true one two = if one == two then decimal one else decimal one ++ codes "," ++ decimal two
metric_word true false one two = decimal one
metric_word false true one two = decimal two
metric_word false false one two = codes "-"

abbrev pub end_label : Interface → List ℕ
end_label i = cost_word i.area i.cost ++ codes "/" ++ metric_word i.level1 i.level2 i.metric1 i.metric2

-- ---- lines ----

-- the area of a line: that of one end, or of the other
abbrev pub area_of_either : Option ℕ → Option ℕ → Option ℕ
area_of_either (Some n) other = Some n
area_of_either None other = other

-- from a router to another one
abbrev pub arc_line : List (List ℕ) → List ℕ → LinkEnd → LinkEnd → List ℕ
arc_line names areas e f =
    codes "  " ++ quoted (router_word names e.router) ++ codes " -> " ++ quoted (router_word names f.router)
    ++ codes " [taillabel=\"" ++ end_label e.interface ++ codes "\", headlabel=\"" ++ end_label f.interface ++ codes "\", "
    ++ line_look areas (area_of_either e.interface.area f.interface.area) ++ codes "];\n"

-- from a router to the node of its subnet
abbrev pub spoke_line : List (List ℕ) → List ℕ → LinkEnd → List ℕ
spoke_line names areas e =
    codes "  " ++ quoted (router_word names e.router) ++ codes " -> \"" ++ prefix_word e.subnet
    ++ codes "\" [taillabel=\"" ++ end_label e.interface ++ codes "\", " ++ line_look areas e.interface.area
    ++ codes ", len=1.4];\n"

-- a link of two ends is a line from one to the other; where there are more, a line from each to the node of the subnet
abbrev pub link_lines_of : List (List ℕ) → List ℕ → Link → List ℕ
link_lines_of names areas (e ∷ f ∷ []) = arc_line names areas e f
link_lines_of names areas link = flat_map (spoke_line names areas) link

-- the node of a subnet
abbrev pub subnet_line : Block → List ℕ
subnet_line p = codes "  \"" ++ prefix_word p ++ codes "\" [shape=plaintext, style=\"\", fontsize=10];\n"

-- a link of more ends than two has one
abbrev pub subnet_node : Link → List ℕ
subnet_node (e ∷ _ ∷ _ ∷ _) = subnet_line e.subnet
subnet_node _ = []

-- the nodes, and behind them the lines of all links
abbrev pub all_link_lines : List (List ℕ) → List ℕ → List Link → List ℕ
all_link_lines names areas links = flat_map subnet_node links ++ flat_map (link_lines_of names areas) links
