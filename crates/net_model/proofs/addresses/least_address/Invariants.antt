use Rattle.std.proofs.Common.{◌≤◌, Any, take}
use Rattle.net_model.specs.Least.{IsBest}
use Rattle.net_model.specs.steps.Scans.{OffersAddress}
use Rattle.net_model.proofs.addresses.least_address.Given as goal

abbrev pub invariant-loop-interface : goal.invariant-loop-interface
invariant-loop-interface l =
    IsBest (λ a b. a ≤ b) (λ a. Any (OffersAddress l.same l.others a) (take l.interface-index l.interfaces)) l.least
