-- The phase of a router in a state, by its name.
use Rattle.std.specs.Prelude.{ℕ, ◌+◌, List, [], ◌∷◌, bytes_eq, if◌then◌else◌}
use Rattle.net_model.specs.Network.{Network}
use Rattle.igp_theory.specs.Phases.{State}
use Rattle.igp_theory.specs.declared.phase.Phase.{Phase}
use Rattle.igp_theory.specs.declared.phase.Phase.TheVariants.{Old}

-- the phase of the first router of this name, counted from this one; a router of another network is Old
abbrev pub phase_from : ℕ → Network → State → List ℕ → Phase
phase_from u [] state name = Old
phase_from u (config ∷ more) state name = if bytes_eq config.name name then state u else phase_from (u + 1) more state name

-- the phase in a state of the router of this name
abbrev pub phase_named : Network → State → List ℕ → Phase
phase_named net state name = phase_from 0 net state name
