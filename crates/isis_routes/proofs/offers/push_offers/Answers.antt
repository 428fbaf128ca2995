use Rattle.net_model.specs.declared.interface.Interface.{Interface}
use Rattle.walk_core.specs.declared.offers.Offer.{Offer}
use Rattle.route_tables.proofs.ListFacts.{adds_step, adds_end}
use Rattle.isis_routes.specs.steps.Offered.{AsksIn, IsOffer}
use Rattle.isis_routes.proofs.offers.push_offers.Goals as goal

pub loop-interface-preserved : goal.loop-interface-preserved
loop-interface-preserved c =
    adds_step (λ (o : Offer) (i : Interface). IsOffer c.args.router (AsksIn c.args.level c.args.dest i) o)
    c.args.offers.now.items c.loop-interface.offers.items c.push_option.new.all.items c.args.interfaces.now c.loop-interface.interface-index
    c.interface-item.result c.interface_offer.result c.loop-interface-test.true c.interface-item.is c.loop-interface.invariant
    c.in_ok-push_option.ensures.ok c.interface_offer.ensures

pub returns : goal.returns
returns c =
    adds_end (λ (o : Offer) (i : Interface). IsOffer c.args.router (AsksIn c.args.level c.args.dest i) o)
    c.args.offers.now.items c.loop-interface.offers.items c.args.interfaces.now c.loop-interface.interface-index c.loop-interface-test.false
    c.loop-interface.invariant
