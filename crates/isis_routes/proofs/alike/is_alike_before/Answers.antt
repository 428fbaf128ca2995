use Rattle.isis_routes.proofs.AlikeFacts.{earlier_is}
use Rattle.isis_routes.proofs.alike.is_alike_before.Goals as goal

pub returns : goal.returns
returns c = λ yes. earlier_is c.args.destinations.now c.args.place c.args.earlier c.index-destinations-earlier.result c.index-destinations-place.result
    c.if-place-earlier.false c.requires c.index-destinations-earlier.is c.index-destinations-place.is (c.are_alike_destinations.ensures yes)
