use Rattle.std.proofs.Common.{take}
use Rattle.std.specs.List.{Any}
use Rattle.walk_core.specs.declared.offers.Offer.{Offer}
use Rattle.ospf_routes.specs.Lists.{Adds}
use Rattle.ospf_routes.specs.steps.Summarized.{IsDefault}
use Rattle.ospf_routes.proofs.stub_areas.push_stub_defaults.Given as goal

abbrev pub invariant-loop-stub : goal.invariant-loop-stub
invariant-loop-stub l = Adds l.initial.offers.items l.offers.items (λ (o : Offer). Any (IsDefault l.area l.b o) (take l.stub-index l.stubs))
