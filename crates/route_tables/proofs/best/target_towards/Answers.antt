use Rattle.std.proofs.Common.{refl}
use Rattle.route_tables.proofs.BestSteps.{alike_hops, best_is_reached}
use Rattle.route_tables.proofs.best.target_towards.Goals as goal

pub returns-then-lead_alike : goal.returns-then-lead_alike
returns-then-lead_alike c = λ count. record {
  zone_is = refl;
  reached = best_is_reached c.args.walks.now c.args.offers.now c.args.best c.requires;
  best = alike_hops c.args.walks.now c.args.offers.now c.args.best count c.requires (c.if-lead_alike.ensures refl);
}
