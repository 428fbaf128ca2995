use Rattle.std.proofs.Common.{ℕ, List, [], ◌+◌, ◌≡◌, get_or, inl, sym, subst, ◌∙◌, arith}
use Rattle.walk_core.specs.Segments.{SendsAcross}
use Rattle.walk_core.specs.Walks.{Arcs}
use Rattle.walk_core.specs.steps.FirstHops.{AreFirstHops}
use Rattle.walk_core.proofs.ExitLaws.{exits_lead}
use Rattle.walk_core.proofs.ReachLaws.{hops_more, lists_of_all}
use Rattle.walk_core.proofs.ways.Ways.hops_over_exits.Goals as goal

pub loop-v-preserved : goal.loop-v-preserved
loop-v-preserved c =
    let arc : Arcs = SendsAcross c.args.self.now.segments in
    let v : ℕ = c.loop-v.v in
    let adds = c.in_ok-push_exits.ensures in
    subst (λ (l : List (List ℕ)). AreFirstHops arc c.args.exits.root (v + 1) l) (sym adds.added)
    (hops_more arc c.args.exits.root v c.loop-v.hops adds.list c.loop-v.invariant
    (λ h.
    let lead = exits_lead c.args.self.now v h c.args.exits c.requires.mesh c.requires.root c.requires.exits in
    (λ has. lead.0 ((adds.exact h).0 has), λ hop. (adds.exact h).1 (lead.1 hop)))
    (adds.ascending c.requires.exits.are.less))

pub returns-clause-exact : goal.returns-clause-exact
returns-clause-exact c =
    let root : ℕ = c.args.exits.root in
    let last : c.loop-v.v ≡ c.count-count.result = omega arith in
    lists_of_all (SendsAcross c.args.self.now.segments) root c.args.self.now.count c.loop-v.v (get_or c.args.self.now.rows root []) c.loop-v.hops
    (c.count-count.ensures.mesh.rows.each c.args.exits.root c.requires.root) c.loop-v.invariant (inl (last ∙ c.count-count.ensures.value))
