use Rattle.ospf_routes.specs.steps.Heard.{AddsRow, IsSummaryRow}
use Rattle.ospf_routes.proofs.originating.keep_into_areas.Given as goal

abbrev pub invariant-loop-zone : goal.invariant-loop-zone
invariant-loop-zone l =
    AddsRow (IsSummaryRow l.boundary.domain.now l.leaving.destination.now.dest l.zone) l.initial.summaries l.summaries
