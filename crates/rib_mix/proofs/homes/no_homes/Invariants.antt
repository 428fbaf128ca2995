use Rattle.std.proofs.Common.{◌≡◌, [], replicate}
use Rattle.rib_mix.proofs.homes.no_homes.Given as goal

abbrev pub invariant-loop : goal.invariant-loop
invariant-loop l = l.homes.items ≡ replicate l.counter []
