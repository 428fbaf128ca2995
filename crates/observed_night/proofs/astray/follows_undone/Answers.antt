use Rattle.std.proofs.Common.{◌≡◌, true, false, arith}
use Rattle.observed_night.proofs.astray.follows_undone.Goals as goal

pub returns : goal.returns
returns c = (
  λ t. let e : false ≡ true = t in absurd cc,
  λ follows. let within = follows.below in absurd (c.loop-other.invariant follows.other (omega (arith, within)) follows.earlier follows.not_done),
)
