-- What is marked in a picture, as a fault.
use Rattle.std.specs.Prelude.{Option, Some, None}
use Rattle.igp_theory.specs.Loops.{Fault, loop, missing}
use Rattle.drawn_network.specs.declared.mark.Mark.{Mark}
use Rattle.drawn_network.specs.declared.mark.Mark.TheVariants.{Nothing, Ring, Lacking}

-- nothing, the ring of a loop, or the router that lacks a step
abbrev pub fault_marked : Mark → Option Fault
fault_marked Nothing = None
fault_marked (Ring address turns) = Some (loop address turns.now)
fault_marked (Lacking address router) = Some (missing address router)
