use Rattle.std.proofs.Common.{arith}
use Rattle.std.proofs.lemmas.Grind.{common_steps}
use Rattle.std.proofs.Common.{ℕ, sym, subst}
use Rattle.walk_core.specs.Segments.{AreSegments}
use Rattle.zone_graph.specs.Segments.{AreZoneSegments}
use Rattle.zone_graph.proofs.KnownFacts.{over_their_count}
use Rattle.zone_graph.proofs.known_walks.known_zone.Goals as goal

pub least_over-requires : goal.least_over-requires
least_over-requires c =
    subst (λ (n : ℕ). AreSegments n c.as_slice.result.now) (sym c.routers.ensures.count)
    (subst (AreZoneSegments c.args.net.now c.args.zone) (sym c.as_slice.ensures.value) c.in_ok-segments.ensures).ports

pub returns-clause-known : goal.returns-clause-known
returns-clause-known c = grind (arith, common_steps, over_their_count)
