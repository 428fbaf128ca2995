use Rattle.std.proofs.Common.{ℕ, ◌<◌}
use Rattle.net_model.specs.Conditions.{LacksBackbone}
use Rattle.net_model.proofs.borders.first_off_backbone.Given as goal

abbrev pub invariant-loop-router : goal.invariant-loop-router
invariant-loop-router l = (u : ℕ) → u < l.router → LacksBackbone l.configs u → ⊥
