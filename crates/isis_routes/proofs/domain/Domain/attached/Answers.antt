use Rattle.std.proofs.Common.{List, sym, subst}
use Rattle.walk_core.specs.declared.offers.Offer.{Offer}
use Rattle.igp_theory.specs.Isis.{OffersDefault}
use Rattle.isis_routes.specs.steps.Domain.{IsisDomain}
use Rattle.isis_routes.specs.steps.Offered.{HoldsOffers}
use Rattle.isis_routes.proofs.domain.Domain.attached.Goals as goal

pub returns : goal.returns
returns c =
    subst (λ (d : IsisDomain). HoldsOffers (OffersDefault d.net) c.as_slice.result.now) c.self.view_is
    (subst (λ (l : List Offer). HoldsOffers (OffersDefault c.self.inside.net.now) l) (sym c.as_slice.ensures.value) c.self.invariant.attached)
