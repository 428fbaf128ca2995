use Rattle.std.proofs.Common.{◌≡◌, ◌++◌, take}
use Rattle.std.specs.List.{filter_map}
use Rattle.net_model.proofs.claims.push_claims.Given as goal

abbrev pub invariant-loop-interface : goal.invariant-loop-interface
invariant-loop-interface g l =
    l.claims.items ≡ l.initial.claims.items ++ filter_map (g.C.Claims.claimed l.router l.config) (take l.interface-index l.interface-items)
