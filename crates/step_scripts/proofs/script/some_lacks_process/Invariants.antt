use Rattle.std.proofs.Common.{◌≡◌, false, take}
use Rattle.std.specs.List.{list_any}
use Rattle.step_scripts.specs.Scripts.{lacks_process}
use Rattle.step_scripts.proofs.script.some_lacks_process.Given as goal

abbrev pub invariant-loop-router : goal.invariant-loop-router
invariant-loop-router l = list_any lacks_process (take l.router l.net) ≡ false
