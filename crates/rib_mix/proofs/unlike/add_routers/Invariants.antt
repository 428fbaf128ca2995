use Rattle.std.proofs.Common.{ℕ}
use Rattle.rib_mix.specs.Answers.{AddsAllBut}
use Rattle.rib_mix.proofs.unlike.add_routers.Given as goal

abbrev pub invariant-loop-router : goal.invariant-loop-router
invariant-loop-router l = AddsAllBut (λ (u : ℕ). ⊥) l.router l.fn.all.items l.all.items
