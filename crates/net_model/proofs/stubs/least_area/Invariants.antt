use Rattle.std.proofs.Common.{◌≤◌, Any, take}
use Rattle.net_model.specs.Least.{IsBest}
use Rattle.net_model.specs.steps.Scans.{OffersArea}
use Rattle.net_model.proofs.stubs.least_area.Given as goal

abbrev pub invariant-loop-interface : goal.invariant-loop-interface
invariant-loop-interface l =
    IsBest (λ a b. a ≤ b) (λ a. Any (OffersArea l.one l.two a) (take l.interface-index l.interface-items)) l.least
