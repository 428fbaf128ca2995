use Rattle.std.proofs.Common.{◌≡◌, ℕ, List, ◌+◌, ◌<◌, arith, sym, subst}
use Rattle.walk_core.specs.Reach.{Reach, AreWalksBelow}
use Rattle.walk_core.specs.Segments.{SendsAcross}
use Rattle.walk_core.specs.steps.Members.{Numbering, MemberWalks}
use Rattle.walk_core.proofs.MemberFacts.{spread_walks_more}
use Rattle.walk_core.proofs.over_segments.spread_all.Goals as goal

pub loop-root-preserved : goal.loop-root-preserved
loop-root-preserved c segments are known =
    let m : Numbering = c.args.members.now in
    let walks : MemberWalks = record { rows = c.args.rows.now; lists = c.args.lists.now } in
    let below : c.loop-root.root < m.count = omega (arith, c.loop-root-test.true, c.count-count.ensures) in
    subst (λ (l : List Reach). AreWalksBelow (SendsAcross segments) m.count (c.loop-root.root + 1) l)
    (sym c.in_ok-push.ensures.items)
    (spread_walks_more segments m walks c.loop-root.root c.in_ok-walks.walks c.loop-root.all.items are known below c.in_ok-walks.ensures
    (c.loop-root.invariant segments are known))

pub returns : goal.returns
returns c segments are known =
    let m : Numbering = c.args.members.now in
    let whole : c.loop-root.root ≡ m.count = omega
    (arith, c.loop-root-test.false, c.loop-root.auto.root-end, c.count-count.ensures) in
    subst (λ (n : ℕ). AreWalksBelow (SendsAcross segments) m.count n c.loop-root.all.items) whole
    (c.loop-root.invariant segments are known)
