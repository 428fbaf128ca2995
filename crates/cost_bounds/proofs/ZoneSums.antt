-- What the interfaces of a router weigh in a zone, and that different zones weigh at most the sum of a network.
use Rattle.std.proofs.Common.{◌≡◌, ◌≢◌, ℕ, ◌+◌, ◌≤◌, Bool, true, false, List, [], ◌∷◌, map}
use Rattle.std.proofs.Common.{get_or, Option, Some, None, is_some, IsTrue, Contains}
use Rattle.std.proofs.Common.{if◌then◌else◌, eqb, refl, sym, ap, subst, ◌∙◌, arith, slice_get}
use Rattle.std.specs.List.{sum_by}
use Rattle.std.proofs.lemmas.Bool.{eq-eqb, eqb-true}
use Rattle.std.proofs.lemmas.List.{get_or-map}
use Rattle.std.proofs.lemmas.List.Sums.{sum_by-cons, get_or-le-sum_by, sum-map}
use Rattle.std.proofs.lemmas.Option.{slice_get_within, get_or_from_slice_get}
use Rattle.net_model.specs.Conditions.{summed_cost, stated_cost, ospf_costs, ospf_cost_sum, isis_metric, isis_metric_sum}
use Rattle.net_model.specs.Configuration.{Configuration}
use Rattle.net_model.specs.Network.{Network, UpInterface, RunsIn, MayJoin, cost_in, Adjacent}
use Rattle.net_model.specs.declared.area.Range.{Range}
use Rattle.net_model.specs.declared.area.Stub.{Stub}
use Rattle.net_model.specs.declared.interface.Interface.{Interface}
use Rattle.net_model.specs.declared.zone.Zone.{Zone}
use Rattle.net_model.specs.declared.zone.Zone.TheVariants.{Area, One, Two}
use Rattle.cost_bounds.proofs.SimpleWalks.{HaveWeights, LeadBack, total}

-- whether the area, if there is one, is n
abbrev pub is_area : ℕ → Option ℕ → Bool
is_area n None = false
is_area n (Some m) = eqb m n

-- whether an interface runs in a zone
abbrev pub runs : Zone → Interface → Bool
runs (Area n) i = is_area n i.area
runs One i = i.level1
runs Two i = i.level2

-- what counts of a cost
abbrev pub counted : Bool → Bool → ℕ → ℕ
counted up runs cost = if up then (if runs then cost else 0) else 0

-- what an interface weighs in a zone: its cost there, where it is up and runs there
abbrev pub zone_cost : Zone → Interface → ℕ
zone_cost z i = counted i.up (runs z i) (cost_in z i)

-- what a router weighs in a zone
abbrev pub zone_costs : Zone → Configuration → ℕ
zone_costs z c = sum_by (zone_cost z) c.interfaces

-- what each router weighs in a zone
abbrev pub weights : Network → Zone → List ℕ
weights net z = map (zone_costs z) net

-- what all routers weigh in a zone
abbrev pub zone_sum : Network → Zone → ℕ
zone_sum net z = sum_by (zone_costs z) net

pub total_of_zone : (net : Network) (z : Zone) → total (weights net z) ≡ zone_sum net z
total_of_zone net z = sum-map (zone_costs z) net

-- an element adds to a sum
pub part_of_sum : {X : Type 0} (f : X → ℕ) (xs : List X) (x : X) → Contains xs x → f x ≤ sum_by f xs
part_of_sum f xs x among = subst (λ y. f y ≤ sum_by f xs) among.2 (get_or-le-sum_by f xs among.0 x among.1)

-- so does the configuration of a router
pub router_weight : (f : Configuration → ℕ) (net : Network) (u : ℕ) (c : Configuration) → slice_get net u ≡ Some c →
    get_or (map f net) u 0 ≡ f c
router_weight f net u c is =
    get_or-map f net u c 0 (slice_get_within net u c is) ∙ ap f (get_or_from_slice_get net u c c is)

-- an up interface that runs in a zone costs at most what its router weighs there
pub interface_weight : (net : Network) (z : Zone) (u : ℕ) (i : Interface) → UpInterface net u i → IsTrue (runs z i) →
    cost_in z i ≤ get_or (weights net z) u 0
interface_weight net z u i up in_zone =
    let counts = ap (λ b. counted b (runs z i) (cost_in z i)) up.up in
    let is : zone_cost z i ≡ cost_in z i = counts ∙ ap (λ b. counted true b (cost_in z i)) in_zone in
    let config = up.config in
    omega (arith, is, part_of_sum (zone_cost z) config.interfaces i up.among, router_weight (zone_costs z) net u config up.router)

-- one that forms adjacencies in a zone runs there
pub area_runs : (n : ℕ) (i : Interface) → i.area ≡ Some n → IsTrue (runs (Area n) i)
area_runs n i is = ap (is_area n) is ∙ eq-eqb n n refl

zone_runs : (z : Zone) (i : Interface) → RunsIn z i → IsTrue (runs z i)
zone_runs (Area n) i is = area_runs n i is.0
zone_runs One i is = is.0
zone_runs Two i is = is.0

pub adjacency_has_weights : (net : Network) (z : Zone) → HaveWeights (Adjacent net z) (weights net z)
adjacency_has_weights net z x y c adjacent =
    let near = adjacent.near in
    omega (arith, adjacent.costs, interface_weight net z x near adjacent.near_up (zone_runs z near adjacent.near_runs))

-- adjacency leads both ways
joins_back : (z : Zone) (c d : Configuration) → MayJoin z c d → MayJoin z d c
joins_back (Area _) c d may = tt
joins_back One c d may = sym may
joins_back Two c d may = tt

pub adjacency_leads_back : (net : Network) (z : Zone) → LeadBack (Adjacent net z)
adjacency_leads_back net z x y c adjacent = (
  cost_in z adjacent.far,
  record {
    apart = λ same. adjacent.apart (sym same);
    subnet = adjacent.subnet;
    near = adjacent.far;
    far = adjacent.near;
    near_up = adjacent.far_up;
    far_up = adjacent.near_up;
    near_subnet = adjacent.far_subnet;
    far_subnet = adjacent.near_subnet;
    near_link = adjacent.far_link;
    far_link = adjacent.near_link;
    near_runs = adjacent.far_runs;
    far_runs = adjacent.near_runs;
    joined = joins_back z adjacent.near_up.config adjacent.far_up.config adjacent.joined;
    costs = refl;
  },
)

-- where three numbers and a fourth are at most one of each element, so are their sums
sums_of_four : {X : Type 0} (f g h e k : X → ℕ) → ((x : X) → f x + g x + h x + e x ≤ k x) → (xs : List X) →
    sum_by f xs + sum_by g xs + sum_by h xs + sum_by e xs ≤ sum_by k xs
sums_of_four f g h e k each [] = omega arith
sums_of_four f g h e k each (x ∷ xs) =
    omega (
      arith,
      each x,
      sums_of_four f g h e k each xs,
      sum_by-cons f x xs,
      sum_by-cons g x xs,
      sum_by-cons h x xs,
      sum_by-cons e x xs,
      sum_by-cons k x xs,
    )

-- what a router states besides: the costs of its ranges and of its stub areas' defaults
abbrev pub stated_costs : Configuration → ℕ
stated_costs c = sum_by (λ (r : Range). stated_cost r.cost) c.ranges + sum_by (λ (s : Stub). s.default_cost) c.stubs

abbrev pub stated_sum : Network → ℕ
stated_sum net = sum_by stated_costs net

three_areas : (a b c : ℕ) → a ≢ b → a ≢ c → b ≢ c → (up : Bool) (area : Option ℕ) (cost : ℕ) →
    counted up (is_area a area) cost + counted up (is_area b area) cost + counted up (is_area c area) cost + 0
    ≤ counted up (is_some area) cost
three_areas a b c ab ac bc false area cost = omega arith
three_areas a b c ab ac bc true None cost = omega arith
three_areas a b c ab ac bc true (Some m) cost = grind (arith, eqb-true)

-- three areas, and what is stated besides, are at most the sum of OSPF costs
pub areas_fit : (net : Network) (a b c : ℕ) → a ≢ b → a ≢ c → b ≢ c →
    zone_sum net (Area a) + zone_sum net (Area b) + zone_sum net (Area c) + stated_sum net ≤ ospf_cost_sum net
areas_fit net a b c ab ac bc =
    sums_of_four (zone_costs (Area a)) (zone_costs (Area b)) (zone_costs (Area c)) stated_costs ospf_costs
    (λ config.
    omega (
      arith,
      sums_of_four (zone_cost (Area a)) (zone_cost (Area b)) (zone_cost (Area c)) (λ i. 0) summed_cost
          (λ i. three_areas a b c ab ac bc i.up i.area i.cost) config.interfaces,
    ))
    net

two_levels : (up one two : Bool) (metric1 metric2 : ℕ) →
    counted up one metric1 + counted up two metric2 + 0 + 0
    ≤ (if up then (if one then metric1 else 0) + (if two then metric2 else 0) else 0)
two_levels true one two metric1 metric2 = omega arith
two_levels false one two metric1 metric2 = omega arith

-- two levels are at most the sum of IS-IS metrics
pub levels_fit : (net : Network) → zone_sum net One + zone_sum net Two ≤ isis_metric_sum net
levels_fit net =
    omega (
      arith,
      sums_of_four (zone_costs One) (zone_costs Two) (λ c. 0) (λ c. 0) (λ c. sum_by isis_metric c.interfaces)
          (λ c. omega (
            arith,
            sums_of_four (zone_cost One) (zone_cost Two) (λ i. 0) (λ i. 0) isis_metric
                (λ i. two_levels i.up i.level1 i.level2 i.metric1 i.metric2) c.interfaces,
          )) net,
    )
