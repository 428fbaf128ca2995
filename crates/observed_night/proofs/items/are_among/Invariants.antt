use Rattle.std.proofs.Common.{ℕ, ◌<◌, Contains, get_or}
use Rattle.observed_night.proofs.items.are_among.Given as goal

abbrev pub invariant-loop-each : goal.invariant-loop-each
invariant-loop-each g l = (k : ℕ) (d : g.row.T.Denot) → k < l.each-index → Contains l.others (get_or l.items k d)
