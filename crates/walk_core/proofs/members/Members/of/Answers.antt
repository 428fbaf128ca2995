use Rattle.std.proofs.Common.{ℕ, subst, sym, arith}
use Rattle.walk_core.specs.Segments.{AreSegments}
use Rattle.walk_core.proofs.MemberFacts.{members_of_marks}
use Rattle.walk_core.proofs.members.Members.of.Goals as goal

pub returns-clause-members : goal.returns-clause-members
returns-clause-members c =
    let is = c.loop-vertex.invariant in
    members_of_marks c.args.segments.now c.in_ok-marks.marks.items c.loop-vertex.members
    (subst (λ (n : ℕ). AreSegments n c.args.segments.now) (sym is.count) c.requires) c.in_ok-marks.ensures.marked is.numbered
    (λ v below. is.marked v (omega (arith, below, is.count, c.loop-vertex-test.false)))
