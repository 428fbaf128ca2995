use Rattle.std.specs.List.{AllWithin}
use Rattle.isis_routes.specs.steps.Lanes.{MakesOne}
use Rattle.isis_routes.proofs.lanes.all_offer.Given as goal

abbrev pub invariant-loop-router : goal.invariant-loop-router
invariant-loop-router l = AllWithin (MakesOne l.domain.net l.level l.offers) l.one.homes.items 0 l.router-index
