use Rattle.std.proofs.Common.{take}
use Rattle.step_scripts.specs.steps.ReadWaves.{AreNoted}
use Rattle.step_scripts.proofs.seats.note.Given as goal

abbrev pub invariant-loop-router : goal.invariant-loop-router
invariant-loop-router l =
    AreNoted (take l.router-index l.routers) l.wave (record { before = l.initial.places.items; after = l.places.items })
