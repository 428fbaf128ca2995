use Rattle.step_scripts.specs.steps.ReadWaves.{AreRanksOf}
use Rattle.step_scripts.proofs.waves_reading.ranks_of.Given as goal

abbrev pub invariant-loop-router : goal.invariant-loop-router
invariant-loop-router l = AreRanksOf l.router l.seats l.ranks.items
