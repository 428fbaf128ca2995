-- Which faults loops are.
use Rattle.loop_finder.specs.declared.fault.Fault.{Fault}
use Rattle.loop_finder.specs.declared.fault.Fault.TheVariants.{Loop, Missing}

-- the fault that is told is a loop
abbrev pub IsToldLoop : Fault → Type 0
IsToldLoop (Loop address) = Unit {0}
IsToldLoop (Missing address router) = ⊥
