use Rattle.std.proofs.Common.{◌∙◌, Some, ap, sym}
use Rattle.std.proofs.lemmas.Option.{none-some, same_Some}
use Rattle.isis_routes.proofs.LevelRoutes.{level_one_walks}
use Rattle.isis_routes.proofs.near.near_router.Goals as goal

pub returns-in-Some : goal.returns-in-Some
returns-in-Some c u =
    let least = level_one_walks c.args.domain.now.net c.args.domain.now.walks c.args.router c.walks.result.now c.walks.ensures.known.walks
    c.requires c.walks.ensures.reach in (
      λ e. record {
        this = sym (same_Some c.args.router u e);
        distance = c.in-Some.field-0;
        walk = (least.distances c.args.to c.in-Some.field-0).0 (sym c.distance.ensures ∙ c.in-Some.is);
      },
      λ is. ap Some (sym is.this),
    )

pub returns-in-None : goal.returns-in-None
returns-in-None c u =
    let least = level_one_walks c.args.domain.now.net c.args.domain.now.walks c.args.router c.walks.result.now c.walks.ensures.known.walks
    c.requires c.walks.ensures.reach in (
      λ no. absurd (none-some u no),
      λ is. absurd (none-some is.distance (sym c.in-None.is ∙ (c.distance.ensures ∙ (least.distances c.args.to is.distance).1 is.walk))),
    )
