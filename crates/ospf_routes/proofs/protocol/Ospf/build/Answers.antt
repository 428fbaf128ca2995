use Rattle.std.proofs.Common.{ℕ, List, Option, length, subst, sym}
use Rattle.ospf_routes.specs.steps.Destinations.{ospf_prefixes}
use Rattle.ospf_routes.specs.steps.Heard.{AreSummaries}
use Rattle.ospf_routes.specs.steps.LaneTwins.{AreAllLaneTwins}
use Rattle.ospf_routes.specs.steps.Ranges.{AreRangesBelow}
use Rattle.ospf_routes.specs.steps.Twins.{AreTwins}
use Rattle.ospf_routes.specs.declared.intra_area.Destination.{Destination}
use Rattle.ospf_routes.specs.declared.ranges.ActiveRange.{ActiveRange}
use Rattle.ospf_routes.proofs.protocol.Ospf.build.Goals as goal

pub all_summaries-requires-clause-ranged : goal.all_summaries-requires-clause-ranged
all_summaries-requires-clause-ranged c =
    let net = c.new-domain.result.net in
    c.in_ok-ranged.ensures net
    (subst (λ (l : List (List ActiveRange)). AreRangesBelow net (length net) l) (sym c.as_slice.ensures.value) c.in_ok-ranges.ensures)

pub all_twins-requires-clause-ranged : goal.all_twins-requires-clause-ranged
all_twins-requires-clause-ranged c =
    let net = c.new-domain.result.net in
    c.in_ok-ranged.ensures net
    (subst (λ (l : List (List ActiveRange)). AreRangesBelow net (length net) l) (sym c.as_slice.ensures.value) c.in_ok-ranges.ensures)

pub invariant_of-result : goal.invariant_of-result
invariant_of-result c =
    let domain = c.new-domain.result in
    let net = domain.net in
    let known = c.as_slice-known.ensures.value in
    let lanes : List (List (Option ℕ)) = c.in_ok-lane_twins.lane_twins.items in
    record {
      destinations = c.in_ok-destinations.ensures;
      listeners = c.in_ok-listens.ensures;
      ranges = c.in_ok-ranges.ensures;
      ranged = c.in_ok-ranged.ensures net
          (subst (λ (l : List (List ActiveRange)). AreRangesBelow net (length net) l) (sym c.as_slice.ensures.value) c.in_ok-ranges.ensures);
      announced = subst (λ (ds : List Destination). AreSummaries domain ds c.in_ok-summaries.summaries) known c.in_ok-summaries.ensures;
      twins = subst (λ (ds : List Destination). AreTwins domain.net (ospf_prefixes ds) c.in_ok-twins.twins.items) known c.in_ok-twins.ensures;
      lane_twins = subst (λ (ds : List Destination). AreAllLaneTwins domain ds c.in_ok-listens.listens.items lanes) known
          (subst (λ (ls : List (Option ℕ)). AreAllLaneTwins domain c.as_slice-known.result.now ls lanes) c.as_slice-3.ensures.value
          c.in_ok-lane_twins.ensures);
    }
