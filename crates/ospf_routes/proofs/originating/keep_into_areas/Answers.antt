use Rattle.std.proofs.Common.{ℕ, subst, sym}
use Rattle.net_addr.specs.Addresses.{Block}
use Rattle.ospf_routes.specs.steps.Offered.{AreOffers}
use Rattle.ospf_routes.specs.steps.Summarized.{IsHeard}
use Rattle.ospf_routes.specs.declared.areas.AreaWalks.{AreaWalks}
use Rattle.ospf_routes.proofs.HeardFacts.{heard_here, row_more}
use Rattle.ospf_routes.proofs.QuietFacts.{quiet_everywhere}
use Rattle.ospf_routes.proofs.originating.keep_into_areas.Goals as goal

pub returns-then-is_quiet : goal.returns-then-is_quiet
returns-then-is_quiet c =
    let leaving = c.args.leaving in
    c.keep_nothing.ensures leaving.destination.now.dest
    (quiet_everywhere c.args.boundary.domain.now leaving c.requires.leaving (c.is_quiet.ensures c.if-is_quiet.true))

pub loop-zone-preserved : goal.loop-zone-preserved
loop-zone-preserved c =
    let domain = c.args.boundary.domain.now in
    let p : Block = c.args.leaving.destination.now.dest in
    let k : ℕ = c.loop-zone.zone in
    let a : AreaWalks = c.area.result.now in
    row_more domain p k c.args.summaries.now c.loop-zone.summaries c.keep.new.self c.as_slice.result.now c.loop-zone.invariant c.in_ok-keep.ensures
    (heard_here domain p k a c.as_slice.result.now c.area.ensures.is
    (subst (AreOffers (IsHeard domain.net p a.number)) (sym c.as_slice.ensures.value) c.in_ok-put_summaries.ensures))
