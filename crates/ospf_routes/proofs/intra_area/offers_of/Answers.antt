use Rattle.std.proofs.Common.{List, subst, sym}
use Rattle.std.specs.List.{Any}
use Rattle.walk_core.specs.declared.offers.Offer.{Offer}
use Rattle.ospf_routes.specs.Lists.{Exactly}
use Rattle.ospf_routes.specs.declared.area_route.AreaRoute.{AreaRoute}
use Rattle.ospf_routes.specs.steps.Offered.{InsideOf}
use Rattle.ospf_routes.proofs.intra_area.offers_of.Goals as goal

pub returns-in_ok-offers-in_default : goal.returns-in_ok-offers-in_default
returns-in_ok-offers-in_default c =
    subst (λ (l : List Offer). Exactly (λ (o : Offer). Any (λ (r : AreaRoute). InsideOf c.args.area r o) c.args.routes.now) l)
    (sym c.from_vec.ensures) c.in_ok-offers-in_default.ensures
