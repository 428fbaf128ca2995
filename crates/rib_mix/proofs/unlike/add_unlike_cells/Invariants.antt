use Rattle.std.proofs.Common.{ℕ, [], get_or}
use Rattle.rib_mix.specs.Answers.{AddsAllBut}
use Rattle.rib_mix.specs.steps.Unlike.{HaveSameCells}
use Rattle.rib_mix.proofs.unlike.add_unlike_cells.Given as goal

abbrev pub invariant-loop-router : goal.invariant-loop-router
invariant-loop-router l =
    AddsAllBut (λ (u : ℕ). HaveSameCells (get_or l.columns u []) l.fn.sorts) l.router l.fn.unlike.items l.unlike.items
