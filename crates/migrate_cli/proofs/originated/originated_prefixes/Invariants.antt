use Rattle.std.proofs.Common.{◌≡◌, take}
use Rattle.prefix_atoms.specs.Originated.{all_originated}
use Rattle.migrate_cli.proofs.originated.originated_prefixes.Given as goal

abbrev pub invariant-loop-router : goal.invariant-loop-router
invariant-loop-router l = l.prefixes.items ≡ all_originated (take l.router l.net)
