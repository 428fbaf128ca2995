use Rattle.std.proofs.Common.{refl}
use Rattle.isis_routes.proofs.AreaFacts.{default_asked}
use Rattle.isis_routes.proofs.attached.default_cost.Goals as goal

pub returns-then-leaves_area : goal.returns-then-leaves_area
returns-then-leaves_area c k = default_asked c.args.net.now c.args.router k c.requires.router (c.if-leaves_area.ensures.0 refl)
