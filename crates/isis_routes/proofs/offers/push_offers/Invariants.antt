use Rattle.std.proofs.Common.{take}
use Rattle.std.specs.List.{Any}
use Rattle.net_model.specs.declared.interface.Interface.{Interface}
use Rattle.walk_core.specs.declared.offers.Offer.{Offer}
use Rattle.route_tables.specs.Lists.{Adds}
use Rattle.isis_routes.specs.steps.Offered.{AsksIn, IsOffer}
use Rattle.isis_routes.proofs.offers.push_offers.Given as goal

abbrev pub invariant-loop-interface : goal.invariant-loop-interface
invariant-loop-interface l = Adds l.initial.offers.items l.offers.items
    (λ (o : Offer). Any (λ (i : Interface). IsOffer l.router (AsksIn l.level l.dest i) o) (take l.interface-index l.interfaces))
