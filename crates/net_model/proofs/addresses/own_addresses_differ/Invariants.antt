use Rattle.std.proofs.Common.{ℕ, ◌<◌}
use Rattle.net_model.specs.Conditions.{HaveOneAddress}
use Rattle.net_model.proofs.addresses.own_addresses_differ.Given as goal

abbrev pub invariant-loop-router : goal.invariant-loop-router
invariant-loop-router l = (u a : ℕ) → u < l.router → HaveOneAddress l.configs u u a → ⊥
