use Rattle.std.proofs.Common.{Any, take}
use Rattle.net_model.specs.Least.{IsBest, IsBlockAtMost}
use Rattle.net_model.specs.steps.Scans.{OffersDest}
use Rattle.net_model.proofs.areas.least_dest.Given as goal

abbrev pub invariant-loop-interface : goal.invariant-loop-interface
invariant-loop-interface l =
    IsBest IsBlockAtMost (λ a. Any (OffersDest l.others a) (take l.interface-index l.interfaces)) l.least
