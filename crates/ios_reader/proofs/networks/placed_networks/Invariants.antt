use Rattle.std.proofs.Common.{◌≡◌, take}
use Rattle.ios_reader.specs.steps.Networks.{placed_networks}
use Rattle.ios_reader.proofs.networks.placed_networks.Given as goal

abbrev pub invariant-loop-place : goal.invariant-loop-place
invariant-loop-place l = l.placed.items ≡ placed_networks 0 (take l.place l.lines)
