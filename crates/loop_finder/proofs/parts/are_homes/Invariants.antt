use Rattle.std.proofs.Common.{ℕ, ◌<◌, get_or}
use Rattle.net_model.specs.Network.{Connected}
use Rattle.loop_finder.proofs.parts.are_homes.Given as goal

abbrev pub invariant-loop-router : goal.invariant-loop-router
invariant-loop-router g l = (k : ℕ) → k < l.router-index → Connected l.mixed.net (get_or l.routers k 0) l.prefix
