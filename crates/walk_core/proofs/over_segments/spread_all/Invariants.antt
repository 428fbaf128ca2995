use Rattle.std.proofs.Common.{List}
use Rattle.walk_core.specs.Reach.{AreWalksBelow}
use Rattle.walk_core.specs.Segments.{SendsAcross}
use Rattle.walk_core.specs.declared.segment.Port.{Port}
use Rattle.walk_core.specs.steps.Members.{AreMembers, AreMemberWalks}
use Rattle.walk_core.proofs.over_segments.spread_all.Given as goal

abbrev pub invariant-loop-root : goal.invariant-loop-root
invariant-loop-root l =
    (segments : List (List Port)) → AreMembers segments l.members →
    AreMemberWalks segments l.members (record { rows = l.rows; lists = l.lists }) →
    AreWalksBelow (SendsAcross segments) l.members.count l.root l.all.items
