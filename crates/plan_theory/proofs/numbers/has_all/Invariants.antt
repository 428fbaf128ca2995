use Rattle.std.proofs.Common.{ℕ, take, All, Contains}
use Rattle.plan_theory.proofs.numbers.has_all.Given as goal

abbrev pub invariant-loop-other : goal.invariant-loop-other
invariant-loop-other l = All (λ (h : ℕ). Contains l.routers h) (take l.other-index l.others)
