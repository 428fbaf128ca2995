use Rattle.std.proofs.Common.{◌≡◌, [], All, take}
use Rattle.net_model.specs.Configuration.{Configuration}
use Rattle.net_model.proofs.stubs.lack_stubs.Given as goal

abbrev pub invariant-loop-config : goal.invariant-loop-config
invariant-loop-config l = All (λ (c : Configuration). c.stubs ≡ []) (take l.config-index l.configs)
