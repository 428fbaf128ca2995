use Rattle.std.proofs.Common.{ℕ, []}
use Rattle.net_addr.specs.Addresses.{Block}
use Rattle.ospf_routes.specs.steps.Heard.{AddsRow, IsSummaryRow}
use Rattle.ospf_routes.specs.steps.Offered.{AreOffers}
use Rattle.ospf_routes.specs.steps.Summarized.{IsHeard}
use Rattle.ospf_routes.proofs.originating.keep_nothing.Given as goal

abbrev pub invariant-loop-zone : goal.invariant-loop-zone
invariant-loop-zone l =
    (p : Block) → ((n : ℕ) → AreOffers (IsHeard l.domain.net p n) []) →
    AddsRow (IsSummaryRow l.domain p l._zone) l.initial.summaries l.summaries
