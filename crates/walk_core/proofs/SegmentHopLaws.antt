-- First hops over segments: the vertices of the segments that the root sends on from which a least walk goes on.
use Rattle.std.proofs.lemmas.Grind.{common_steps}
use Rattle.std.proofs.Common.{◌≡◌, ◌≢◌, ◌↔◌, MatchOption, None, ℕ, ◌+◌, ◌<◌, ◌≤◌, List, ◌∷◌, Option, Some, length, refl, sym, ap, subst, ◌∙◌, arith, inl}
use Rattle.std.proofs.Common.{inr, Contains, [], get_or}
use Rattle.std.proofs.lemmas.Bool.{cases_eq}
use Rattle.walk_core.specs.declared.ways.Aim.{Aim}
use Rattle.walk_core.specs.declared.outlets.Outlet.{Outlet}
use Rattle.walk_core.specs.declared.segment.Port.{Port}
use Rattle.walk_core.specs.Walks.{Arcs, Leg, walk_cost, LeastCost, FirstHop, LeastWalk, Walks}
use Rattle.walk_core.specs.Distances.{distance_at}
use Rattle.walk_core.specs.steps.Rows.{distance_between, AreLeastDistances}
use Rattle.walk_core.specs.steps.Flooding.{segment_at}
use Rattle.walk_core.specs.steps.SegmentWalks.{Mesh, IsMesh, IsOutlet, HasOutlet, AreOutlets, GoesOver, GoesOut, IsNoNearer}
use Rattle.walk_core.specs.steps.SegmentWalks.{EndsAlone, IsBehind, IsEndAt, IsLinkEnd, IsFarEnd, IsLan}
use Rattle.walk_core.specs.Segments.{SendsOn, SendsAcross}
use Rattle.walk_core.proofs.FloodLaws.{segment_among, sends_at_place, sends_below}
use Rattle.walk_core.proofs.HopLaws.{BeginsLeast, begins_least_from_first_hop, first_hop_from_begins_least}
use Rattle.walk_core.proofs.WalkLaws.{least_cost_at_most, least_cost_unique}
use Rattle.walk_core.specs.steps.Relaxing.{IsAtMost}
use Rattle.std.proofs.lemmas.Option.{same_Some}
use Rattle.walk_core.proofs.RelaxLaws.{distance_cases}

-- a distance is at most what a walk costs
pub at_most_of_walk : (arc : Arcs) (u v : ℕ) (ds : List (Option ℕ)) (legs : List Leg) → AreLeastDistances arc u ds → Walks arc u legs v →
    IsAtMost (distance_at ds v) (walk_cost legs)
at_most_of_walk arc u v ds legs are leads = elim (distance_cases (distance_at ds v)) [
  | inl none ↦ absurd ((are.none v).0 none legs leads)
  | inr some ↦ record { value = some.0; is = some.1; below = least_cost_at_most ((are.least v some.0).0 some.1) legs leads }
]

-- over a link one comes to its far end alone
pub far_end : (segments : List (List Port)) (root to : ℕ) (outlet : Outlet) → IsOutlet segments root outlet → outlet.to ≡ Some to →
    IsFarEnd (segment_at segments outlet.place) root to
far_end segments root to outlet is leads = let ports : List Port = segment_at segments outlet.place in
    subst (λ (o : Option ℕ). MatchOption o (IsLan ports) (IsFarEnd ports root)) leads is.leads

-- what is known where first hops from the root towards what is looked for are wanted
pub record IsWanted (mesh : Mesh) (root : ℕ) (outlets : List Outlet) (aim : Aim) : Type 0 where
  pub mesh_is : IsMesh mesh
  pub root_is : root < mesh.count
  pub outlets_are : AreOutlets mesh.segments root (length mesh.segments) outlets
  pub away : distance_between mesh.rows root aim.vertex ≡ Some aim.distance

-- a distance of the rows is a least cost
pub cost_from : (mesh : Mesh) (u v d : ℕ) → IsMesh mesh → u < mesh.count → distance_between mesh.rows u v ≡ Some d →
    LeastCost (SendsAcross mesh.segments) u v d
cost_from mesh u v d is below away = ((is.rows.each u below).least.least v d).0 away

-- the arc over an outlet to another vertex of its segment
pub arc_over : (segments : List (List Port)) (root : ℕ) (outlet : Outlet) (port : Port) → IsOutlet segments root outlet →
    Contains (segment_at segments outlet.place) port → root ≢ port.vertex → SendsAcross segments root port.vertex outlet.cost
arc_over segments root outlet port is among apart = grind (arith, common_steps, segment_among)

-- a way out over an outlet begins a least walk
pub hop_from_outlet : (mesh : Mesh) (root : ℕ) (outlets : List Outlet) (aim : Aim) (h : ℕ) → IsWanted mesh root outlets aim → GoesOut mesh outlets aim h →
    FirstHop (SendsAcross mesh.segments) root aim.vertex h
hop_from_outlet mesh root outlets aim h wanted goes =
    let arc : Arcs = SendsAcross mesh.segments in
    let v : ℕ = aim.vertex in
    let outlet : Outlet = goes.thing in
    let over : GoesOver mesh aim outlet h = goes.leads in
    let rest : ℕ = over.rest.distance in
    let port : Port = over.end.thing in
    let is : IsOutlet mesh.segments root outlet = wanted.outlets_are.each outlet goes.among in
    let among = segment_among mesh.segments outlet.place is.within in
    let below : port.vertex < mesh.count =
    (wanted.mesh_is.ports (segment_at mesh.segments outlet.place) among port over.end.among).vertex in
    let far : distance_between mesh.rows port.vertex v ≡ Some rest =
    subst (λ (n : ℕ). distance_between mesh.rows port.vertex n ≡ Some rest) over.behind.vertex over.end.leads.far in
    let beyond : LeastCost arc port.vertex v rest = cost_from mesh port.vertex v rest wanted.mesh_is below far in
    let whole : LeastCost arc root v (outlet.cost + rest) =
    cost_from mesh root v (outlet.cost + rest) wanted.mesh_is wanted.root_is (wanted.away ∙ ap (λ (n : ℕ). Some n) (sym over.behind.sum)) in
    let positive : 1 ≤ outlet.cost =
    omega (arith, (wanted.mesh_is.ports (segment_at mesh.segments outlet.place) among is.port is.among).cost, is.costs) in
    let apart : root ≢ port.vertex = λ at_root.
    let here : LeastCost arc root v rest = subst (λ (n : ℕ). LeastCost arc n v rest) (sym at_root) beyond in
    omega (arith, positive, least_cost_unique here whole) in
    subst (λ (n : ℕ). FirstHop arc root v n) over.end.leads.vertex (first_hop_from_begins_least (record {
      cost = outlet.cost;
      beyond = rest;
      over = arc_over mesh.segments root outlet port is over.end.among apart;
      rest = beyond;
      whole = whole;
    }))

-- a least walk begins over an outlet
pub outlet_from_hop : (mesh : Mesh) (root : ℕ) (outlets : List Outlet) (aim : Aim) (h : ℕ) → IsWanted mesh root outlets aim →
    FirstHop (SendsAcross mesh.segments) root aim.vertex h → GoesOut mesh outlets aim h
outlet_from_hop mesh root outlets aim h wanted hop =
    let arc : Arcs = SendsAcross mesh.segments in
    let v : ℕ = aim.vertex in
    let begins : BeginsLeast arc root v h = begins_least_from_first_hop hop in
    let at = sends_at_place mesh.segments root h begins.cost begins.over.over in
    let on : SendsOn (segment_at mesh.segments at.0) root h begins.cost = at.2 in
    let listed : HasOutlet outlets at.0 on.near.cost = wanted.outlets_are.every at.0 at.1 on.near on.near_among on.from in
    let below : h < mesh.count = sends_below mesh.segments mesh.count root h begins.cost wanted.mesh_is.ports begins.over.over in
    let far : distance_between mesh.rows h v ≡ Some begins.beyond = ((wanted.mesh_is.rows.each h below).least.least v begins.beyond).1 begins.rest in
    let whole : distance_between mesh.rows root v ≡ Some (begins.cost + begins.beyond) =
    ((wanted.mesh_is.rows.each root wanted.root_is).least.least v (begins.cost + begins.beyond)).1 begins.whole in
    let sum : begins.cost + begins.beyond ≡ aim.distance =
    let k : Some (begins.cost + begins.beyond) ≡ Some aim.distance = sym whole ∙ wanted.away in cc in
    record {
      thing = listed.outlet;
      among = listed.among;
      leads = record {
        rest = record { vertex = v; distance = begins.beyond };
        behind = record { vertex = refl; sum = omega (arith, sum, listed.costs, on.costs) };
        end = record {
          thing = on.far;
          among = subst (λ (n : ℕ). Contains (segment_at mesh.segments n) on.far) (sym listed.leads) on.far_among;
          leads = record { far = subst (λ (n : ℕ). distance_between mesh.rows n v ≡ Some begins.beyond) (sym on.to) far; vertex = on.to };
        };
      };
    }

-- over an outlet of the root a vertex is no farther than from a port of its segment, and what the outlet costs
pub over_outlet : (mesh : Mesh) (root v d : ℕ) (outlet : Outlet) (port : Port) → IsMesh mesh → root < mesh.count → IsOutlet mesh.segments root outlet →
    Contains (segment_at mesh.segments outlet.place) port → distance_between mesh.rows port.vertex v ≡ Some d →
    IsAtMost (distance_between mesh.rows root v) (outlet.cost + d)
over_outlet mesh root v d outlet port is below out among far =
    let within = (is.ports (segment_at mesh.segments outlet.place) (segment_among mesh.segments outlet.place out.within) port among).vertex in
    let beyond : LeastCost (SendsAcross mesh.segments) port.vertex v d = cost_from mesh port.vertex v d is within far in
    elim (cases_eq root port.vertex) [
      | inl same ↦ record {
        value = d;
        is = subst (λ (n : ℕ). distance_between mesh.rows n v ≡ Some d) (sym same) far;
        below = omega arith;
      }
      | inr apart ↦
          let most =
          at_most_of_walk (SendsAcross mesh.segments) root v (get_or mesh.rows root []) (record { to = port.vertex; cost = outlet.cost } ∷ beyond.legs)
          (is.rows.each root below).least (arc_over mesh.segments root outlet port out among apart, beyond.walk.leads) in
          record { value = most.value; is = most.is; below = omega (arith, most.below, beyond.costs) }
    ]

-- over no outlet of the root what is looked for is nearer
pub none_nearer : (mesh : Mesh) (root : ℕ) (outlets : List Outlet) (aim : Aim) (outlet : Outlet) → IsWanted mesh root outlets aim →
    Contains outlets outlet → IsNoNearer mesh outlet aim
none_nearer mesh root outlets aim outlet wanted listed port d among far =
    let most = over_outlet mesh root aim.vertex d outlet port wanted.mesh_is wanted.root_is (wanted.outlets_are.each outlet listed) among far in
    omega (arith, most.below, same_Some most.value aim.distance (sym most.is ∙ wanted.away))

-- the end of a link is the only vertex of it from which a least walk of the root goes on
pub ends_alone : (mesh : Mesh) (root : ℕ) (outlets : List Outlet) (aim : Aim) (outlet : Outlet) → IsWanted mesh root outlets aim →
    Contains outlets outlet → EndsAlone mesh outlet aim
ends_alone mesh root outlets aim outlet wanted listed = go outlet.to is.leads
  where
    is : IsOutlet mesh.segments root outlet
    is = wanted.outlets_are.each outlet listed

    ports : List Port
    ports = segment_at mesh.segments outlet.place

    positive : 1 ≤ outlet.cost
    positive = omega (arith, (wanted.mesh_is.ports ports (segment_among mesh.segments outlet.place is.within) is.port is.among).cost, is.costs)

    -- the root itself is no such end
    elsewhere : (rest : Aim) → IsBehind aim outlet.cost rest → distance_between mesh.rows root rest.vertex ≡ Some rest.distance → ⊥
    elsewhere rest behind away =
        let at : distance_between mesh.rows root aim.vertex ≡ Some rest.distance =
        subst (λ (n : ℕ). distance_between mesh.rows root n ≡ Some rest.distance) behind.vertex away in
        let same : rest.distance ≡ aim.distance = let k : Some rest.distance ≡ Some aim.distance = sym at ∙ wanted.away in cc in
        omega (arith, positive, behind.sum, same)

    go : (to : Option ℕ) → MatchOption to (IsLan ports) (IsFarEnd ports root) →
        MatchOption to (IsLan ports)
        (λ t. (rest : Aim) (h : ℕ) → IsBehind aim outlet.cost rest → IsEndAt mesh.rows ports rest h ↔ IsLinkEnd mesh.rows rest t h)
    go None lan = lan
    go (Some to) far = λ rest h behind. (
      λ end. elim (far.only end.thing end.among) [
        | inl at_root ↦ absurd (elsewhere rest behind
            (subst (λ (n : ℕ). distance_between mesh.rows n rest.vertex ≡ Some rest.distance) at_root end.leads.far))
        | inr at_end ↦ record {
          far = subst (λ (n : ℕ). distance_between mesh.rows n rest.vertex ≡ Some rest.distance) at_end end.leads.far;
          is = sym at_end ∙ end.leads.vertex;
        }
      ],
      λ of. let at = far.port in record {
        thing = at.1;
        among = (at.0, at.2, at.3);
        leads = record {
          far = subst (λ (n : ℕ). distance_between mesh.rows n rest.vertex ≡ Some rest.distance) (sym at.4) of.far;
          vertex = at.4 ∙ of.is;
        };
      },
    )

-- a least walk to another vertex has a first hop
pub some_hop : (arc : Arcs) (u v : ℕ) (legs : List Leg) → u ≢ v → LeastWalk arc u legs v → (h : ℕ) × FirstHop arc u v h
some_hop arc u v [] apart walk = absurd (apart walk.leads)
some_hop arc u v (leg ∷ legs) apart walk = (leg.to, record { leg = leg; legs = legs; walk = walk; begins = refl })

-- none leads back to where it begins
pub no_hop_home : (mesh : Mesh) (root v h : ℕ) → IsMesh mesh → v ≡ root → FirstHop (SendsAcross mesh.segments) root v h → ⊥
no_hop_home mesh root v h is home hop =
    let begins : BeginsLeast (SendsAcross mesh.segments) root v h = begins_least_from_first_hop hop in
    let sends = begins.over.over in
    let positive = (is.ports sends.segment sends.among sends.over.near sends.over.near_among).cost in
    omega (arith, least_cost_at_most begins.whole [] (sym home), positive, sends.over.costs)
