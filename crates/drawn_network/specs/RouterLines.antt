-- The lines of the routers, wave by wave.
use Rattle.std.specs.Prelude.{ℕ, ◌+◌, ◌==◌, ◌&&◌, Bool, false, if◌then◌else◌, List, [], ◌++◌, codes, decimal}
use Rattle.std.specs.Prelude.{Option, Some, None}
use Rattle.std.specs.List.{flat_map, list_any}
use Rattle.net_addr.specs.Addresses.{Block}
use Rattle.net_model.specs.Network.{Network}
use Rattle.net_model.specs.RouterNames.{names_of}
use Rattle.net_model.specs.declared.interface.Interface.{Interface}
use Rattle.order_core.specs.Rankings.{numbers_below, wave_count, wave_of}
use Rattle.igp_theory.specs.Loops.{Fault, loop, missing}
use Rattle.printed_lines.specs.Words.{router_word}
use Rattle.drawn_network.specs.Colors.{color_of}
use Rattle.drawn_network.specs.LinkEnds.{interfaces_at}
use Rattle.drawn_network.specs.Quotes.{escaped, quoted}

-- the fault is that router u lacks a step
abbrev pub lacks_in : Option Fault → ℕ → Bool
lacks_in None u = false
lacks_in (Some (missing a v)) u = v == u
lacks_in (Some (loop a ring)) u = false

-- a prefix is that of an interface
abbrev pub is_prefix : Block → Option Block → Bool
is_prefix p None = false
is_prefix p (Some q) = (p.base == q.base) && (p.len == q.len)

-- an interface is up, and this is its subnet
abbrev pub is_up_with : Block → Interface → Bool
is_up_with p i = i.up && is_prefix p i.subnet

-- the target is so at one of some interfaces
abbrev pub has_target : Option Block → List Interface → Bool
has_target None interfaces = false
has_target (Some p) interfaces = list_any (is_up_with p) interfaces

-- what the label of a router that lacks a step has more, and its look
abbrev pub lacking_words : Bool → List ℕ
lacking_words lacks = if lacks then codes "\\nno step" else []

abbrev pub lacking_look : Bool → List ℕ
lacking_look lacks = if lacks then codes ", color=\"#d62728\", penwidth=3" else []

-- a router that has the target has a double line
abbrev pub target_look : Bool → List ℕ
target_look has = if has then codes ", peripheries=2" else []

-- the label of a router of wave w: its name, and the number of the wave, counted from 1
abbrev pub router_label : List ℕ → ℕ → Bool → List ℕ
router_label name w lacks = escaped name ++ codes "\\n" ++ decimal (w + 1) ++ lacking_words lacks

-- the line of a router
abbrev pub router_node : List ℕ → ℕ → Bool → Bool → List ℕ
router_node name w lacks has =
    codes "  " ++ quoted name ++ codes " [label=\"" ++ router_label name w lacks ++ codes "\", fillcolor=\"" ++ color_of w
    ++ codes "\"" ++ lacking_look lacks ++ target_look has ++ codes "];\n"

-- that of router u of wave w of a network, where this is the fault, with the target of its address
abbrev pub line_of_router : Network → Option Fault → Option Block → ℕ → ℕ → List ℕ
line_of_router net fault target w u =
    router_node (router_word (names_of net) u) w (lacks_in fault u) (has_target target (interfaces_at net u))

-- a comment with the number of a wave, and the lines of its routers
abbrev pub wave_nodes : Network → Option Fault → Option Block → List ℕ → ℕ → List ℕ
wave_nodes net fault target ranks w =
    codes "  // wave " ++ decimal (w + 1) ++ codes "\n" ++ flat_map (line_of_router net fault target w) (wave_of ranks w)

abbrev pub all_wave_lines : Network → Option Fault → Option Block → List ℕ → List ℕ
all_wave_lines net fault target ranks = flat_map (wave_nodes net fault target ranks) (numbers_below (wave_count ranks))
