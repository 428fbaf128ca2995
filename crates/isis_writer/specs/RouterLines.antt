-- The lines of a prepared configuration: the IS-IS process of a router, idle at distance 255, and its IS-IS interfaces. A line is
-- its bytes; those of a section begin with a blank.
use Rattle.std.specs.Prelude.{ℕ, ◌+◌, ◌/◌, ◌%◌, Bool, true, false, ◌&&◌, List, [], ◌∷◌, ◌++◌, Option, Some, None, bytes_eq, codes}
use Rattle.std.specs.Prelude.{decimal, if◌then◌else◌}
use Rattle.std.specs.List.{flat_map, list_any}
use Rattle.net_model.specs.declared.bounds.TheConstants.{MOST_DISTANCE}
use Rattle.net_model.specs.declared.config.Levels.{Levels}
use Rattle.net_model.specs.declared.config.Levels.TheVariants.{One, Two, Both}
use Rattle.printed_lines.specs.Words.{joined, spaced}
use Rattle.ios_lines.specs.Words.{Word}
use Rattle.ios_lines.specs.declared.interface_line.InterfaceLine.{InterfaceLine}
use Rattle.ios_lines.specs.declared.interface_line.InterfaceLine.TheVariants.{Circuit, Metric, Metric1, Metric2}
use Rattle.ios_lines.specs.declared.interface_line.InterfaceStatement.{InterfaceStatement}
use Rattle.ios_sections.specs.declared.section.InterfaceSection.{InterfaceSection}
use Rattle.design_file.specs.declared.settled.SettledInterface.{SettledInterface}
use Rattle.design_file.specs.declared.settled.SettledRouter.{SettledRouter}

-- the word for some levels
abbrev pub level_word : Levels → Word
level_word One = codes "level-1"
level_word Both = codes "level-1-2"
level_word Two = codes "level-2-only"

-- ---- the process ----

-- four decimal digits of a number
abbrev pub four_digits : ℕ → Word
four_digits n = (48 + n / 1000 % 10) ∷ (48 + n / 100 % 10) ∷ (48 + n / 10 % 10) ∷ (48 + n % 10) ∷ []

-- the network entity title of a router: its area, the system id that ends with its number plus 1, and the selector
abbrev pub title : Word → ℕ → Word
title area number = area ++ codes ".0000.0000." ++ four_digits (number + 1) ++ codes ".00"

abbrev pub title_line : Word → ℕ → List ℕ
title_line area number = spaced (codes "net" ∷ title area number ∷ [])

abbrev pub type_line : Levels → List ℕ
type_line levels = spaced (codes "is-type" ∷ level_word levels ∷ [])

abbrev pub style_line : List ℕ
style_line = spaced (codes "metric-style" ∷ codes "wide" ∷ [])

abbrev pub idle_distance_line : List ℕ
idle_distance_line = spaced (codes "distance" ∷ decimal MOST_DISTANCE ∷ [])

-- the line that leaks level 2 routes into level 1
abbrev pub leak_line : List ℕ
leak_line = spaced (codes "redistribute" ∷ codes "isis" ∷ codes "ip" ∷ codes "level-2" ∷ codes "into" ∷ codes "level-1" ∷ [])

abbrev pub leak_lines : Bool → List (List ℕ)
leak_lines leak = if leak then leak_line ∷ [] else []

abbrev pub passive_line : Word → List ℕ
passive_line name = spaced (codes "passive-interface" ∷ name ∷ [])

-- a passive interface has a line
abbrev pub passive_lines : SettledInterface → List (List ℕ)
passive_lines interface = if interface.passive then passive_line interface.name ∷ [] else []

abbrev pub process_head : List ℕ
process_head = joined (codes "router" ∷ codes "isis" ∷ [])

-- the process of a router of this number
abbrev pub process_lines : ℕ → SettledRouter → List (List ℕ)
process_lines number router =
    process_head ∷ title_line router.area number ∷ type_line router.levels ∷ style_line ∷ idle_distance_line
    ∷ leak_lines router.leak ++ flat_map passive_lines router.interfaces

-- ---- the interfaces ----

-- a line of an interface is an `isis circuit-type` or an `isis metric` line
abbrev pub is_old_line : InterfaceLine → Bool
is_old_line (Circuit _) = true
is_old_line (Metric _) = true
is_old_line (Metric1 _) = true
is_old_line (Metric2 _) = true
is_old_line _ = false

-- the old configuration has such a line for the interface of this name
abbrev pub has_old_line : List InterfaceSection → Word → Bool
has_old_line old name = list_any (λ (s : InterfaceSection). bytes_eq s.name name && list_any (λ (l : InterfaceStatement). is_old_line l.says) s.lines) old

-- an interface that isn't passive runs IS-IS by a line of its own
abbrev pub run_lines : Bool → List (List ℕ)
run_lines passive = if passive then [] else spaced (codes "ip" ∷ codes "router" ∷ codes "isis" ∷ []) ∷ []

abbrev pub circuit_line : Levels → List ℕ
circuit_line levels = spaced (codes "isis" ∷ codes "circuit-type" ∷ level_word levels ∷ [])

-- the levels that the design names; where it names none, both, if an old line is to have no effect
abbrev pub level_lines : Bool → Option Levels → List (List ℕ)
level_lines old (Some levels) = circuit_line levels ∷ []
level_lines old None = if old then circuit_line Both ∷ [] else []

-- an interface that isn't passive has the line of its levels
abbrev pub circuit_lines : Bool → SettledInterface → List (List ℕ)
circuit_lines old interface = if interface.passive then [] else level_lines old interface.circuit

abbrev pub isis_metric_line : ℕ → List Word → List ℕ
isis_metric_line metric level = spaced (codes "isis" ∷ codes "metric" ∷ decimal metric ∷ level)

-- the metric of each level
abbrev pub both_level_lines : ℕ → List (List ℕ)
both_level_lines metric = isis_metric_line metric (codes "level-1" ∷ []) ∷ isis_metric_line metric (codes "level-2" ∷ []) ∷ []

-- the metric holds for each level where an old line is to have no effect
abbrev pub level_metric_lines : Bool → ℕ → List (List ℕ)
level_metric_lines old metric = if old then both_level_lines metric else []

abbrev pub interface_head : Word → List ℕ
interface_head name = joined (codes "interface" ∷ name ∷ [])

-- an IS-IS interface, of which an old line may stand
abbrev pub interface_lines : Bool → SettledInterface → List (List ℕ)
interface_lines old interface =
    interface_head interface.name
    ∷ run_lines interface.passive ++ (circuit_lines old interface ++ isis_metric_line interface.metric [] ∷ level_metric_lines old interface.metric)

-- all lines of a router of this number, whose old interfaces are these
abbrev pub router_lines : List InterfaceSection → ℕ → SettledRouter → List (List ℕ)
router_lines old number router =
    process_lines number router ++ flat_map (λ (i : SettledInterface). interface_lines (has_old_line old i.name) i) router.interfaces
