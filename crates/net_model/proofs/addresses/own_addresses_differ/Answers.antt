use Rattle.std.proofs.Common.{◌≡◌, ℕ, ◌<◌, inl, inr, subst, arith}
use Rattle.std.proofs.lemmas.Bool.{cases_lt}
use Rattle.net_model.specs.Conditions.{HaveOneAddress}
use Rattle.net_model.proofs.addresses.own_addresses_differ.Goals as goal

pub loop-router-preserved : goal.loop-router-preserved
loop-router-preserved c u a below h = elim (cases_lt u c.loop-router.router) [
  | inl lt ↦ c.loop-router.invariant u a lt h
  | inr ge ↦
      let same : u ≡ c.loop-router.router = omega arith in
      c.in-None.ensures a (subst (λ (w : ℕ). HaveOneAddress c.args.configs.now w w a) same h)
]

pub returns : goal.returns
returns c u a below h = let lt : u < c.loop-router.router = omega arith in c.loop-router.invariant u a lt h
