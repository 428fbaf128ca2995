use Rattle.std.proofs.Common.{◌≡◌, ℕ, [], ◌∷◌, ◌+◌, ◌++◌, ◌⊎◌, inl, inr, List, Option, length, arith, sym, ap, subst, ◌∙◌, ◌↔◌, Contains}
use Rattle.walk_core.specs.declared.hops.Departure.{Departure}
use Rattle.std.proofs.lemmas.Result.{IfOk-weaker}
use Rattle.walk_core.specs.Reach.{Reach, AreLeastWalks}
use Rattle.walk_core.specs.Walks.{FirstHop}
use Rattle.walk_core.specs.steps.Departures.{BeginsAt}
use Rattle.walk_core.specs.steps.FirstHops.{AreFirstHops}
use Rattle.walk_core.proofs.DepartureLaws.{begins_at_is_first_hop}
use Rattle.walk_core.proofs.ReachLaws.{hops_more, lists_of_all, no_hops_listed}
use Rattle.walk_core.proofs.walks.walks_over.Goals as goal

pub loop-v-init : goal.loop-v-init
loop-v-init g c = subst (λ (l : List (List ℕ)). AreFirstHops (g.G.CostGraph.has_arc c.args.graph.now) c.args.root 0 l) (sym c.none-hops.ensures)
    (no_hops_listed (g.G.CostGraph.has_arc c.args.graph.now) c.args.root)

pub loop-v-preserved : goal.loop-v-preserved
loop-v-preserved g c =
    let arc = g.G.CostGraph.has_arc c.args.graph.now in
    let root : ℕ = c.args.root in
    let v : ℕ = c.loop-v.v in
    let ds : List Departure = c.in_ok-departures.departures.items in
    let rows = c.args.rows.now in
    let distances = c.args.distances in
    let hops : List ℕ = c.find_first_hops.new.found.items in
    let exact : (h : ℕ) → Contains hops h ↔ FirstHop arc root v h = λ h.
    let list : Contains hops h ↔ BeginsAt ds rows v c.at.result h =
    subst (λ (l : List Departure). Contains hops h ↔ BeginsAt l rows v c.at.result h) c.as_slice-in-loop-v.ensures.value
    (c.in_ok-find_first_hops.ensures.exact h) in
    let begins = begins_at_is_first_hop arc root ds rows distances v h c.in_ok-departures.ensures c.requires.ends c.requires.row.least in
    let far = c.at.ensures in (
      λ has. begins.0 (subst (λ (d : Option ℕ). BeginsAt ds rows v d h) far (list.0 has)),
      λ first. list.1 (subst (λ (d : Option ℕ). BeginsAt ds rows v d h) (sym far) (begins.1 first)),
    ) in
    let pushed : c.push.new.self ≡ c.loop-v.hops ++ hops ∷ [] =
    c.in_ok-push.ensures ∙ ap (λ (l : List ℕ). c.loop-v.hops ++ l ∷ []) c.as_slice-in-loop-v-2.ensures.value in
    subst (λ (l : List (List ℕ)). AreFirstHops arc root (v + 1) l) (sym pushed)
    (hops_more arc root v c.loop-v.hops hops c.loop-v.invariant exact c.in_ok-find_first_hops.ensures.ascending)

pub returns-clause-least : goal.returns-clause-least
returns-clause-least g c =
    let arc = g.G.CostGraph.has_arc c.args.graph.now in
    let count : ℕ = g.G.CostGraph.vertex_count c.args.graph.now in
    let ds : List Departure = c.in_ok-departures.departures.items in
    let last : c.loop-v.v ≡ c.most_ends-v-end.result = omega arith in
    let all : (c.loop-v.v ≡ count) ⊎ ((v cost : ℕ) → arc c.args.root v cost → ⊥) = elim c.most_ends-v-end.ensures [
      | inl full ↦ inl (last ∙ full ∙ c.vertices.ensures)
      | inr none ↦ inr (λ v cost over.
          let among = (c.in_ok-departures.ensures.every v cost over).among in
          omega (arith, among.1, none, ap (λ (l : List Departure). length l) c.as_slice.ensures.value))
    ] in
    IfOk-weaker c.of.result _ _ (λ (walks : Reach) same. subst (AreLeastWalks arc c.args.root) (sym same) (record {
      distances = c.requires.row.least.least;
      unreached = c.requires.row.least.none;
      hops = lists_of_all arc c.args.root count c.loop-v.v c.args.distances c.loop-v.hops c.requires.row c.loop-v.invariant all;
    })) c.of.ensures
