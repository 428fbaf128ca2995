use Rattle.std.proofs.Common.{ℕ, take}
use Rattle.std.specs.List.{Any}
use Rattle.igp_theory.specs.Ospf.{IsComponent}
use Rattle.ospf_routes.specs.Lists.{Adds}
use Rattle.ospf_routes.specs.declared.intra_area.Destination.{Destination}
use Rattle.ospf_routes.proofs.ranges.costs_among.Given as goal

abbrev pub invariant-loop-destination : goal.invariant-loop-destination
invariant-loop-destination l = Adds l.initial.costs.items l.costs.items
    (λ (c : ℕ). Any (λ (d : Destination). IsComponent l.domain.net l.b l.outer.range.now d.dest c) (take l.destination-index l.near))
