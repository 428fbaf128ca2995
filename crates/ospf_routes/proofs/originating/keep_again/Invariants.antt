use Rattle.ospf_routes.specs.steps.Heard.{AddsRow, IsRowAgain}
use Rattle.ospf_routes.proofs.originating.keep_again.Given as goal

abbrev pub invariant-loop-zone : goal.invariant-loop-zone
invariant-loop-zone l = AddsRow (IsRowAgain l.initial.summaries l.earlier l.zone) l.initial.summaries l.summaries
