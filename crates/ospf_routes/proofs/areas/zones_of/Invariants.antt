use Rattle.std.proofs.Common.{ℕ, ◌≡◌, take}
use Rattle.std.specs.List.{Any}
use Rattle.net_model.specs.declared.zone.Zone.{Zone}
use Rattle.net_model.specs.declared.zone.Zone.TheVariants.{Area}
use Rattle.ospf_routes.specs.Lists.{Adds}
use Rattle.ospf_routes.proofs.areas.zones_of.Given as goal

abbrev pub invariant-loop-number : goal.invariant-loop-number
invariant-loop-number l = Adds l.initial.zones.items l.zones.items (λ (z : Zone). Any (λ (n : ℕ). Area n ≡ z) (take l.number-index l.numbers))
