use Rattle.std.proofs.lemmas.Grind.{common_steps}
use Rattle.std.proofs.Common.{◌≡◌, ◌++◌, ◌∷◌, [], ◌+◌, ℕ, List, get_or, inl, inr, ap, sym, subst, ◌∙◌, arith}
use Rattle.walk_core.specs.Segments.{SendsAcross}
use Rattle.walk_core.specs.Walks.{Arcs}
use Rattle.walk_core.specs.steps.FirstHops.{AreFirstHops, ListFirstHops}
use Rattle.walk_core.proofs.ReachLaws.{hops_more, lists_of_all, no_hops_listed}
use Rattle.walk_core.proofs.RowLaws.{no_arc}
use Rattle.walk_core.proofs.ways.Ways.hops_from.Goals as goal

pub hops_over_lan-requires-clause-outlets : goal.hops_over_lan-requires-clause-outlets
hops_over_lan-requires-clause-outlets c = grind (arith, common_steps)

pub loop-v-init : goal.loop-v-init
loop-v-init c = subst (λ (l : List (List ℕ)). AreFirstHops (SendsAcross c.args.self.now.segments) c.args.root 0 l) (sym c.in_ok-hops-2.ensures)
    (no_hops_listed (SendsAcross c.args.self.now.segments) c.args.root)

pub loop-v-preserved : goal.loop-v-preserved
loop-v-preserved c =
    let arc : Arcs = SendsAcross c.args.self.now.segments in
    let v : ℕ = c.loop-v.v in
    let hops : List (List ℕ) = c.loop-v.hops in
    let found : List ℕ = c.find_hops.new.found.items in
    let lists : c.push.new.self ≡ hops ++ found ∷ [] = c.in_ok-push.ensures ∙ ap (λ (l : List ℕ). hops ++ l ∷ []) c.as_slice.ensures.value in
    subst (λ (l : List (List ℕ)). AreFirstHops arc c.args.root (v + 1) l) (sym lists)
    (hops_more arc c.args.root v hops found c.loop-v.invariant c.in_ok-find_hops.ensures.exact c.in_ok-find_hops.ensures.ascending)

pub returns-clause-exact : goal.returns-clause-exact
returns-clause-exact c =
    let last : c.loop-v.v ≡ c.count-count.result = omega arith in
    lists_of_all (SendsAcross c.args.self.now.segments) c.args.root c.args.self.now.count c.loop-v.v (get_or c.args.self.now.rows c.args.root []) c.loop-v.hops
    (c.count-count.ensures.mesh.rows.each c.args.root c.requires.root) c.loop-v.invariant (inl (last ∙ c.count-count.ensures.value))

pub returns-then-is_lone-clause-exact : goal.returns-then-is_lone-clause-exact
returns-then-is_lone-clause-exact c =
    let arc : Arcs = SendsAcross c.args.self.now.segments in
    subst (λ (l : List (List ℕ)). ListFirstHops arc c.args.root l) (sym c.none.ensures)
    (lists_of_all arc c.args.root c.args.self.now.count 0 (get_or c.args.self.now.rows c.args.root []) []
    (c.count-count.ensures.mesh.rows.each c.args.root c.requires.root) (no_hops_listed arc c.args.root)
    (inr (no_arc c.args.self.now.segments c.args.root c.args.outlets.now c.requires.outlets (c.is_lone.ensures.0 c.if-is_lone.true))))
