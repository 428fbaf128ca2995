use Rattle.std.proofs.Common.{◌≡◌, ◌++◌, ◌∷◌, ◌+◌, ◌↔◌, [], ℕ, List, Option, Vec, Global, Contains, IfSome, get_or, inl, ap, sym, subst, ◌∙◌, arith}
use Rattle.walk_core.specs.Distances.{distance_at}
use Rattle.walk_core.specs.Segments.{SendsAcross}
use Rattle.walk_core.specs.Walks.{Arcs, FirstHop}
use Rattle.walk_core.specs.declared.exits.Exit.{Exit}
use Rattle.walk_core.specs.steps.Exits.{AreExits, OneLeadsAsFar}
use Rattle.walk_core.specs.steps.FirstHops.{AreFirstHops}
use Rattle.walk_core.specs.steps.Rows.{distance_between}
use Rattle.walk_core.specs.steps.SegmentWalks.{Mesh}
use Rattle.walk_core.proofs.ExitLaws.{ends_are_hops, exit_fits}
use Rattle.walk_core.proofs.ReachLaws.{hops_more, lists_of_all}
use Rattle.walk_core.proofs.ways.Ways.hops_over_links.Goals as goal

pub find_far_ends-requires : goal.find_far_ends-requires
find_far_ends-requires c exit among =
    let some : AreExits c.self.inside.rows.now c.args.outlets.now c.in-Some-2.exits.items =
    subst (λ (o : Option (Vec Exit Global)). IfSome o (λ all. AreExits c.self.inside.rows.now c.args.outlets.now all.items)) c.in-Some-2.is
    c.in_ok-exits.ensures in
    let are : AreExits c.args.self.now.rows c.args.outlets.now c.in-Some-2.exits.items =
    subst (λ (m : Mesh). AreExits m.rows c.args.outlets.now c.in-Some-2.exits.items) c.self.view_is some in
    exit_fits c.args.self.now c.args.outlets.now exit c.requires.mesh c.count-count.ensures.few
    (are.each exit (subst (λ (l : List Exit). Contains l exit) c.as_slice.ensures.value among))

pub loop-v-preserved : goal.loop-v-preserved
loop-v-preserved c =
    let mesh : Mesh = c.args.self.now in
    let arc : Arcs = SendsAcross mesh.segments in
    let root : ℕ = c.args.root in
    let v : ℕ = c.loop-v.v in
    let hops : List (List ℕ) = c.loop-v.hops in
    let found : List ℕ = c.find_far_ends.new.found.items in
    let exits : List Exit = c.in-Some-2.exits.items in
    let some : AreExits c.self.inside.rows.now c.args.outlets.now exits =
    subst (λ (o : Option (Vec Exit Global)). IfSome o (λ all. AreExits c.self.inside.rows.now c.args.outlets.now all.items)) c.in-Some-2.is
    c.in_ok-exits.ensures in
    let are : AreExits mesh.rows c.args.outlets.now exits = subst (λ (m : Mesh). AreExits m.rows c.args.outlets.now exits) c.self.view_is some in
    let far : c.distance_in.result ≡ distance_between mesh.rows root v =
    c.distance_in.ensures ∙ ap (λ (l : List (Option ℕ)). distance_at l v) c.in-Some.ensures
    ∙ ap (λ (m : Mesh). distance_between m.rows root v) c.self.view_is in
    let lists : c.push.new.self ≡ hops ++ found ∷ [] =
    c.in_ok-push.ensures ∙ ap (λ (l : List ℕ). hops ++ l ∷ []) c.as_slice-in-loop-v.ensures.value in
    let exact : (h : ℕ) → Contains found h ↔ FirstHop arc root v h = λ h.
    let is = ends_are_hops mesh root v h c.args.outlets.now exits c.requires.mesh c.requires.root c.requires.outlets are in
    let ends : Contains found h ↔ OneLeadsAsFar exits v (distance_between mesh.rows root v) h =
    subst (λ (d : Option ℕ). Contains found h ↔ OneLeadsAsFar exits v d h) far
    (subst (λ (l : List Exit). Contains found h ↔ OneLeadsAsFar l v c.distance_in.result h) c.as_slice.ensures.value
    (c.in_ok-find_far_ends.ensures.exact h)) in
    (λ has. is.0 (ends.0 has), λ hop. ends.1 (is.1 hop)) in
    subst (λ (l : List (List ℕ)). AreFirstHops arc root (v + 1) l) (sym lists)
    (hops_more arc root v hops found c.loop-v.invariant exact c.in_ok-find_far_ends.ensures.ascending)

pub returns-clause-exact : goal.returns-clause-exact
returns-clause-exact c =
    let last : c.loop-v.v ≡ c.count-count.result = omega arith in
    lists_of_all (SendsAcross c.args.self.now.segments) c.args.root c.args.self.now.count c.loop-v.v (get_or c.args.self.now.rows c.args.root []) c.loop-v.hops
    (c.count-count.ensures.mesh.rows.each c.args.root c.requires.root) c.loop-v.invariant (inl (last ∙ c.count-count.ensures.value))
