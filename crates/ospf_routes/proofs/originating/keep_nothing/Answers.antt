use Rattle.std.proofs.Common.{[]}
use Rattle.ospf_routes.proofs.HeardFacts.{row_more, row_none}
use Rattle.ospf_routes.proofs.ShiftLaws.{heard_itself}
use Rattle.ospf_routes.proofs.originating.keep_nothing.Goals as goal

pub loop-zone-init : goal.loop-zone-init
loop-zone-init c = λ p quiet. row_none c.args.domain.now p c.args.summaries.now

pub loop-zone-preserved : goal.loop-zone-preserved
loop-zone-preserved c = λ p quiet.
    row_more c.args.domain.now p c.loop-zone._zone c.args.summaries.now c.loop-zone.summaries c.keep_empty.new.self []
    (c.loop-zone.invariant p quiet) c.in_ok-keep_empty.ensures (λ n at. heard_itself (quiet n))
