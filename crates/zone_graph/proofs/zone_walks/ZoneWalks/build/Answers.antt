use Rattle.std.proofs.Common.{refl, sym, subst}
use Rattle.std.proofs.lemmas.Result.{IfOk-weaker}
use Rattle.zone_graph.specs.Segments.{AreZoneSegments}
use Rattle.zone_graph.proofs.zone_walks.ZoneWalks.build.Goals as goal

pub over-requires : goal.over-requires
over-requires c = (subst (AreZoneSegments c.args.net.now c.args.zone) (sym c.as_slice.ensures.value) c.in_ok-segments.ensures).ports

pub returns : goal.returns
returns c =
    IfOk-weaker c.over.result _ _ (λ walks are. are c.args.net.now c.args.zone refl
    (subst (AreZoneSegments c.args.net.now c.args.zone) (sym c.as_slice.ensures.value) c.in_ok-segments.ensures)) c.over.ensures
