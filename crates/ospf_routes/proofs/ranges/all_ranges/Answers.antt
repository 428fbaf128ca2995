use Rattle.std.proofs.Common.{◌+◌, [], subst, List, sym}
use Rattle.ospf_routes.proofs.PlaceFacts.{places_more}
use Rattle.ospf_routes.specs.steps.Ranges.{AreActiveRanges, AreRangesBelow}
use Rattle.ospf_routes.specs.declared.ranges.ActiveRange.{ActiveRange}
use Rattle.ospf_routes.proofs.ranges.all_ranges.Goals as goal

pub loop-b-preserved : goal.loop-b-preserved
loop-b-preserved c =
    subst (λ (l : List (List ActiveRange)). AreRangesBelow c.args.domain.now.net (c.loop-b.b + 1) l) (sym c.in_ok-push.ensures.items)
    (places_more (AreActiveRanges c.args.domain.now.net) [] c.loop-b.b c.loop-b.ranges.items c.in_ok-of_router.field-0 c.loop-b.invariant
    c.in_ok-of_router.ensures)
