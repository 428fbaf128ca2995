-- First hops from a root whose only port is on a LAN: those of the walks that begin there.
use Rattle.std.proofs.lemmas.Grind.{common_steps}
use Rattle.std.proofs.Common.{◌≡◌, ◌≢◌, ◌↔◌, ℕ, ◌<◌, List, [], ◌∷◌, Option, Some, None, Contains, length, get_or, refl, sym, subst, arith, inl, inr}
use Rattle.std.proofs.Common.{set, get_or-set_other}
use Rattle.std.proofs.Math.ListN.{get_or-eq_default}
use Rattle.std.proofs.lemmas.Bool.{cases_eq, cases_lt}
use Rattle.std.proofs.lemmas.List.Elements.{Contains-push, Contains-push_cases}
use Rattle.walk_core.specs.declared.ways.Aim.{Aim}
use Rattle.walk_core.specs.declared.outlets.Outlet.{Outlet}
use Rattle.walk_core.specs.declared.segment.Port.{Port}
use Rattle.walk_core.specs.steps.Rows.{distance_between, IsDistanceRow}
use Rattle.walk_core.specs.Reach.{Reach, distance_of, listed_hops_of, HasHop}
use Rattle.walk_core.specs.Segments.{SendsAcross}
use Rattle.walk_core.specs.Walks.{Arcs, LeastCost, FirstHop, walk_cost}
use Rattle.walk_core.specs.steps.Flooding.{segment_at}
use Rattle.walk_core.specs.steps.SegmentWalks.{beyond_port, AreOutlets, IsOutlet, AreWalksFrom, GoesOut, GoesOver, IsBehind, IsEndAt, IsMesh, IsNoNearer, Mesh}
use Rattle.walk_core.specs.steps.Cheapest.{IsCheapestCost}
use Rattle.walk_core.specs.steps.FirstHops.{ListFirstHops}
use Rattle.walk_core.proofs.ReachLaws.{hop_below, none_at}
use Rattle.walk_core.proofs.SegmentHopLaws.{IsWanted, hop_from_outlet, none_nearer, outlet_from_hop, some_hop, over_outlet, no_hop_home}
use Rattle.walk_core.proofs.SegmentSteps.{end_is_nearest, same_rest}
use Rattle.walk_core.proofs.WalkLaws.{first_hop_has_least_cost}

-- the only port of the root is on a LAN, and the walks that begin there are known
pub record IsOnLan (mesh : Mesh) (root : ℕ) (outlet : Outlet) (reach : Reach) : Type 0 where
  pub mesh_is : IsMesh mesh
  pub root_is : root < mesh.count
  pub outlets_are : AreOutlets mesh.segments root (length mesh.segments) (outlet ∷ [])
  pub walks : AreWalksFrom mesh.rows (segment_at mesh.segments outlet.place) mesh.count reach

-- what goes out goes over the only port
goes_over : (mesh : Mesh) (aim : Aim) (outlet : Outlet) (h : ℕ) → GoesOut mesh (outlet ∷ []) aim h → GoesOver mesh aim outlet h
goes_over mesh aim outlet h goes = grind (arith, common_steps, Contains-push_cases)

-- towards another vertex the hops are those of the walks from the LAN
same_hops : (mesh : Mesh) (root v d h : ℕ) (outlet : Outlet) (reach : Reach) → IsOnLan mesh root outlet reach → v < mesh.count →
    distance_between mesh.rows root v ≡ Some d → root ≢ v → HasHop reach v h ↔ FirstHop (SendsAcross mesh.segments) root v h
same_hops mesh root v d h outlet reach on below away apart = (
  λ has. hop_from_outlet mesh root (outlet ∷ []) aim h wanted (record {
    thing = outlet;
    among = listed;
    leads = record { rest = rest; behind = behind; end = lists.0 (subst (λ (n : ℕ). HasHop reach n h) (sym behind.vertex) has) };
  }),
  λ hop.
      let over : GoesOver mesh aim outlet h = goes_over mesh aim outlet h (outlet_from_hop mesh root (outlet ∷ []) aim h wanted hop) in
      let end : IsEndAt mesh.rows ports rest h =
      subst (λ (a : Aim). IsEndAt mesh.rows ports a h) (same_rest aim outlet.cost over.rest rest over.behind behind) over.end in
      subst (λ (n : ℕ). HasHop reach n h) behind.vertex (lists.1 end),
)
  where
    aim : Aim
    aim = record { vertex = v; distance = d }

    ports : List Port
    ports = segment_at mesh.segments outlet.place

    listed : Contains (outlet ∷ []) outlet
    listed = Contains-push [] outlet

    wanted : IsWanted mesh root (outlet ∷ []) aim
    wanted = record { mesh_is = on.mesh_is; root_is = on.root_is; outlets_are = on.outlets_are; away = away }

    first : (n : ℕ) × FirstHop (SendsAcross mesh.segments) root v n
    first =
        let least : LeastCost (SendsAcross mesh.segments) root v d = ((on.mesh_is.rows.each root on.root_is).least.least v d).0 away in
        some_hop (SendsAcross mesh.segments) root v least.legs apart least.walk

    over_first : GoesOver mesh aim outlet first.0
    over_first = goes_over mesh aim outlet first.0 (outlet_from_hop mesh root (outlet ∷ []) aim first.0 wanted first.1)

    rest : Aim
    rest = over_first.rest

    behind : IsBehind aim outlet.cost rest
    behind = over_first.behind

    within : rest.vertex < mesh.count
    within = omega (arith, below, behind.vertex)

    near : IsNoNearer mesh (record { place = outlet.place; cost = 0; to = None }) rest
    near port e among far =
        let from : distance_between mesh.rows port.vertex v ≡ Some e =
        subst (λ (n : ℕ). distance_between mesh.rows port.vertex n ≡ Some e) behind.vertex far in
        omega (arith, none_nearer mesh root (outlet ∷ []) aim outlet wanted listed port e among from, behind.sum)

    lists : HasHop reach rest.vertex h ↔ IsEndAt mesh.rows ports rest h
    lists = (on.walks.ends rest.vertex within).some rest.distance h
        (end_is_nearest mesh outlet.place rest reach on.walks within near first.0 over_first.end)

-- what the root doesn't reach is reached from no vertex of the LAN
unreached_beyond : (mesh : Mesh) (root v : ℕ) (outlet : Outlet) (reach : Reach) → IsOnLan mesh root outlet reach → v < mesh.count →
    distance_between mesh.rows root v ≡ None → distance_of reach v ≡ None
unreached_beyond mesh root v outlet reach on below away = go (distance_of reach v) (on.walks.distances v below)
  where
    ports : List Port
    ports = segment_at mesh.segments outlet.place

    is : IsOutlet mesh.segments root outlet
    is = on.outlets_are.each outlet (Contains-push [] outlet)

    go : (nearest : Option ℕ) → IsCheapestCost (beyond_port mesh.rows v) ports nearest → nearest ≡ None
    go None none = refl
    go (Some d) best =
        let most = over_outlet mesh root v d outlet best.attained.thing on.mesh_is on.root_is is best.attained.among best.attained.costs in
        absurd (cc (away, most.is))

-- the lists of the walks that begin on the LAN, without one towards the root, have the first hops
pub hops_on_lan : (mesh : Mesh) (root : ℕ) (outlet : Outlet) (reach : Reach) → IsOnLan mesh root outlet reach →
    ListFirstHops (SendsAcross mesh.segments) root (set reach.hops root [])
hops_on_lan mesh root outlet reach on v h = elim (cases_eq v root) [
  | inl home ↦ nothing (get_or (set reach.hops root []) v [])
      (subst (λ (n : ℕ). get_or (set reach.hops root []) n [] ≡ []) (sym home) (none_at reach.hops root)) (no_hop_home mesh root v h on.mesh_is home)
  | inr apart ↦ subst (λ (l : List ℕ). Contains l h ↔ FirstHop arc root v h) (sym (get_or-set_other reach.hops root v [] [] apart)) (elsewhere apart)
]
  where
    arc : Arcs
    arc = SendsAcross mesh.segments

    row : IsDistanceRow arc mesh.count root (get_or mesh.rows root [])
    row = on.mesh_is.rows.each root on.root_is

    nothing : (list : List ℕ) → list ≡ [] → (FirstHop arc root v h → ⊥) → Contains list h ↔ FirstHop arc root v h
    nothing list none never = (
      λ has. let empty : Contains [] h = subst (λ (l : List ℕ). Contains l h) none has in absurd (omega (arith, empty.1)),
      λ hop. absurd (never hop),
    )

    within : v < mesh.count → v ≢ root → (away : Option ℕ) → distance_between mesh.rows root v ≡ away →
        Contains (listed_hops_of reach v) h ↔ FirstHop arc root v h
    within below apart None is =
        nothing (listed_hops_of reach v) ((on.walks.ends v below).none (unreached_beyond mesh root v outlet reach on below is)) (λ hop.
        let cost : ℕ = walk_cost (hop.leg ∷ hop.legs) in
        let some = (row.least.least v cost).1 (first_hop_has_least_cost hop) in
        absurd (cc (some, is)))
    within below apart (Some d) is = same_hops mesh root v d h outlet reach on below is (λ same. apart (sym same))

    elsewhere : v ≢ root → Contains (listed_hops_of reach v) h ↔ FirstHop arc root v h
    elsewhere apart = elim (cases_lt v mesh.count) [
      | inl below ↦ within below apart (distance_between mesh.rows root v) refl
      | inr past ↦ nothing (listed_hops_of reach v) (get_or-eq_default reach.hops [] (omega (arith, past, on.walks.within)))
          (λ hop. omega (arith, past, hop_below arc root mesh.count v h (get_or mesh.rows root []) row hop))
    ]
