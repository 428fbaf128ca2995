use Rattle.std.proofs.Common.{◌≡◌, true, false, arith}
use Rattle.observed_night.proofs.told.has_later_wave.Goals as goal

pub returns : goal.returns
returns c = (
  λ t. let e : false ≡ true = t in absurd cc,
  λ has.
      let within = has.below in
      let upto = c.loop-rank.invariant has.later (omega (arith, within)) in
      let after = has.after in
      absurd (omega (arith, upto, after)),
)
