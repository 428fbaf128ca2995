use Rattle.std.proofs.Common.{arith}
use Rattle.std.proofs.lemmas.Grind.{common_steps}
use Rattle.std.proofs.Common.{sym, subst}
use Rattle.std.proofs.lemmas.List.{get_or_default}
use Rattle.route_tables.proofs.ListFacts.{within_more}
use Rattle.isis_routes.specs.steps.Homes.{AreRoutersAt}
use Rattle.isis_routes.proofs.HomeFacts.{home_is_router}
use Rattle.isis_routes.proofs.lanes.all_offer.Goals as goal

pub makes_one-requires : goal.makes_one-requires
makes_one-requires c =
    let homes = c.as_slice-router-items.result.now in
    home_is_router c.args.domain.now.net c.args.one.now.dest homes c.loop-router.router-index
    (subst (AreRoutersAt c.args.domain.now.net c.args.one.now.dest) (sym c.as_slice-router-items.ensures.value) c.requires.homes) c.loop-router-test.true

pub loop-router-preserved : goal.loop-router-preserved
loop-router-preserved c = grind (arith, common_steps, get_or_default, within_more)
