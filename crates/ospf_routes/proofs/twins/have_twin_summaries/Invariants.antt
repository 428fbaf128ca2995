use Rattle.std.proofs.Common.{ℕ, ◌<◌}
use Rattle.route_tables.specs.AlikeOffers.{AreAlikeOffers}
use Rattle.ospf_routes.specs.steps.OfferLists.{heard_into}
use Rattle.ospf_routes.proofs.twins.have_twin_summaries.Given as goal

abbrev pub invariant-loop-zone : goal.invariant-loop-zone
invariant-loop-zone l = (k : ℕ) → k < l.zone → AreAlikeOffers (heard_into l.summaries l.one k) (heard_into l.summaries l.other k)
