use Rattle.std.proofs.Common.{List, refl, sym, subst}
use Rattle.net_model.specs.declared.zone.Zone.TheVariants.{One, Two}
use Rattle.walk_core.specs.declared.segment.Port.{Port}
use Rattle.zone_graph.specs.Segments.{AreZoneSegments}
use Rattle.isis_routes.proofs.level_walks.LevelWalks.over.Goals as goal

pub walks_over-requires : goal.walks_over-requires
walks_over-requires c =
    (subst (λ (l : List (List Port)). AreZoneSegments c.args.net.now One l) (sym c.as_slice.ensures.value) c.requires.one).ports

pub walks_over-requires-2 : goal.walks_over-requires-2
walks_over-requires-2 c =
    (subst (λ (l : List (List Port)). AreZoneSegments c.args.net.now Two l) (sym c.as_slice-2.ensures.value) c.requires.two).ports

pub returns : goal.returns
returns c = record {
  one = c.in_ok-one.ensures c.args.net.now One refl
      (subst (λ (l : List (List Port)). AreZoneSegments c.args.net.now One l) (sym c.as_slice.ensures.value) c.requires.one);
  two = c.in_ok-two.ensures c.args.net.now Two refl
      (subst (λ (l : List (List Port)). AreZoneSegments c.args.net.now Two l) (sym c.as_slice-2.ensures.value) c.requires.two);
}
