-- The arcs of the ring of a loop, in red and with its tags.
use Rattle.std.specs.Prelude.{ℕ, ◌+◌, ◌%◌, List, [], ◌∷◌, ◌++◌, codes, length, map, Option, Some, None, slice_index}
use Rattle.std.specs.List.{flat_map}
use Rattle.order_core.specs.Rankings.{numbers_below}
use Rattle.order_core.specs.Turns.{routers_of}
use Rattle.order_core.specs.declared.turn.Tag.{Tag}
use Rattle.order_core.specs.declared.turn.Tag.TheVariants as tag
use Rattle.order_core.specs.declared.turn.Turn.{Turn}
use Rattle.igp_theory.specs.Loops.{Fault, loop, missing}
use Rattle.printed_lines.specs.Words.{router_word}
use Rattle.drawn_network.specs.Quotes.{quoted}

-- O for old, N for new, B for both
abbrev pub tag_mark : Tag → ℕ
tag_mark tag.Old = 79
tag_mark tag.New = 78
tag_mark tag.Both = 66

-- the marks of a ring's tags
abbrev pub marks_of : List Turn → List ℕ
marks_of ring = map (λ (turn : Turn). tag_mark turn.tag) ring

-- from a router to another one, with a mark
abbrev pub red_line : List (List ℕ) → ℕ → ℕ → ℕ → List ℕ
red_line names u v mark =
    codes "  " ++ quoted (router_word names u) ++ codes " -> " ++ quoted (router_word names v)
    ++ codes " [dir=forward, color=\"#d62728\", penwidth=2.5, label=\"" ++ mark ∷ []
    ++ codes "\", fontcolor=\"#d62728\", fontsize=14];\n"

-- from the router at a place of a ring to the next one, and from the last to the first
abbrev pub red_line_at : List (List ℕ) → List Turn → ℕ → List ℕ
red_line_at names ring k =
    red_line names (slice_index (routers_of ring) k) (slice_index (routers_of ring) ((k + 1) % length ring))
    (slice_index (marks_of ring) k)

abbrev pub red_lines : List (List ℕ) → List Turn → List ℕ
red_lines names ring = flat_map (red_line_at names ring) (numbers_below (length ring))

-- the ring of a fault, if it is a loop
abbrev pub mark_lines : List (List ℕ) → Option Fault → List ℕ
mark_lines names None = []
mark_lines names (Some (missing a u)) = []
mark_lines names (Some (loop a ring)) = red_lines names ring
