use Rattle.std.proofs.Common.{arith}
use Rattle.ospf_routes.proofs.SiblingLaws.{again_more, again_none, again_within}
use Rattle.ospf_routes.proofs.originating.keep_again.Goals as goal

pub loop-zone-init : goal.loop-zone-init
loop-zone-init c = again_none c.args.summaries.now c.args.earlier

pub keep_again-requires : goal.keep_again-requires
keep_again-requires c =
    let zone = c.loop-zone.zone in
    again_within c.args.summaries.now c.loop-zone.summaries c.args.earlier zone zone c.loop-zone.invariant
    (c.requires.place zone (omega (arith, c.loop-zone-test.true, c.zones-zone-end.ensures.count, c.requires.areas)))

pub loop-zone-preserved : goal.loop-zone-preserved
loop-zone-preserved c =
    let zone = c.loop-zone.zone in
    again_more c.args.summaries.now c.loop-zone.summaries c.keep_again.new.self c.args.earlier zone c.loop-zone.invariant
    (c.requires.place zone (omega (arith, c.loop-zone-test.true, c.zones-zone-end.ensures.count, c.requires.areas))) c.in_ok-keep_again.ensures
