use Rattle.std.proofs.Common.{sym, subst}
use Rattle.isis_routes.specs.steps.Homes.{AreRoutersAt}
use Rattle.isis_routes.proofs.level_one.LevelOne.collect.Goals as goal

pub put_level_offers-requires : goal.put_level_offers-requires
put_level_offers-requires c = subst (AreRoutersAt c.args.net.now c.args.dest) (sym c.as_slice.ensures.value) c.requires
