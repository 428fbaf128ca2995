-- OSPF costs are at most the sum of all OSPF costs.
use Rattle.std.proofs.Common.{◌≡◌, ◌≢◌, ℕ, suc, ◌+◌, ◌≤◌, List, [], ◌∷◌, sym, ap, subst, ◌∙◌, ◌⊎◌, inl, inr, arith}
use Rattle.std.proofs.lemmas.Bool.{cases_eq}
use Rattle.std.proofs.lemmas.Option.{slice_get_within, get_or_from_slice_get}
use Rattle.net_addr.specs.Addresses.{Block, Covers}
use Rattle.net_model.specs.Conditions.{stated_cost, ospf_cost_sum}
use Rattle.net_model.specs.Configuration.{Configuration}
use Rattle.net_model.specs.Network.{Network, HasConfiguration, InArea, Adjacent}
use Rattle.net_model.specs.declared.area.Range.{Range}
use Rattle.net_model.specs.declared.area.Stub.{Stub}
use Rattle.net_model.specs.declared.zone.Zone.TheVariants.{Area}
use Rattle.walk_core.specs.Walks.{Leg, Walks, LeastCost}
use Rattle.igp_theory.specs.Ospf.{OffersSubnet, IntraAreaCost, IsComponent, RangeCost, stated, least, greatest}
use Rattle.igp_theory.specs.Ospf.{SummarizesSubnet, SummarizesRange, BackboneSummary, BorderCost, HasStub, AreaSummary}
use Rattle.igp_theory.specs.Ospf.{Summary, into_backbone, into_area, InterAreaCost}
use Rattle.cost_bounds.specs.OspfCosts.{RangesAgree, OspfCostsAreAtMost}
use Rattle.cost_bounds.proofs.SimpleWalks.{Reaches, offered_has_best}
use Rattle.cost_bounds.proofs.ZoneSums.{zone_sum, stated_costs, stated_sum, areas_fit, part_of_sum, interface_weight, area_runs}
use Rattle.cost_bounds.proofs.ZoneCosts.{ZoneCost, cost_of_best, cost_of_walk, within_zone, both_within_zone}

module _ (net : Network) where
  -- what the routers weigh in an area
  abbrev area_sum : ℕ → ℕ
  area_sum n = zone_sum net (Area n)

  two_areas_fit : (a b : ℕ) → a ≢ b → area_sum a + area_sum b + stated_sum net ≤ ospf_cost_sum net
  two_areas_fit a b apart = omega (arith, areas_fit net a b (suc (a + b)) apart (λ e. omega (arith, e)) (λ e. omega (arith, e)))

  area_fits : (n : ℕ) → area_sum n + stated_sum net ≤ ospf_cost_sum net
  area_fits n = omega (arith, two_areas_fit n (suc n) (λ e. omega (arith, e)))

  -- a cost within an area, and what a walk in it costs
  intra_cost : (n : ℕ) (p : Block) (u c : ℕ) (costs : IntraAreaCost net n p u c) → ZoneCost net (Area n) costs.best.at c
  intra_cost n p u c costs =
      cost_of_best net (Area n) (OffersSubnet net n p) u c costs.best
      (λ at asks offered.
      let i = offered.interface in
      omega (arith, offered.costs, interface_weight net (Area n) at i offered.up (area_runs n i offered.area)))

  intra_fits : (n : ℕ) (p : Block) (u c : ℕ) → IntraAreaCost net n p u c → c ≤ area_sum n
  intra_fits n p u c costs = within_zone net (Area n) costs.best.at c (intra_cost n p u c costs)

  walk_fits : (n u v d : ℕ) → LeastCost (Adjacent net (Area n)) u v d → d ≤ area_sum n
  walk_fits n u v d reached = within_zone net (Area n) v d (cost_of_walk net (Area n) u v d reached)

  -- what a router states is at most what all state
  router_states : (u : ℕ) (config : Configuration) → HasConfiguration net u config → stated_costs config ≤ stated_sum net
  router_states u config is =
      part_of_sum stated_costs net config (u, slice_get_within net u config is, get_or_from_slice_get net u config config is)

  -- a range costs what a line states, or what a component does
  range_by : (u : ℕ) (r : Range) (c : ℕ) → RangeCost net u r c → (c ≤ stated_sum net) ⊎ ((p : Block) × IsComponent net u r p c)
  range_by u r c (stated says active) =
      let has = active.component.range in
      inl (omega (
        arith,
        ap stated_cost says,
        part_of_sum (λ (s : Range). stated_cost s.cost) has.config.ranges r has.among,
        router_states u has.config has.router,
      ))
  range_by u r c (least none compatible p component lowest) = inr (p, component)
  range_by u r c (greatest none compatible p component highest) = inr (p, component)

  range_fits : (u : ℕ) (r : Range) (c : ℕ) → RangeCost net u r c → c ≤ area_sum r.area + stated_sum net
  range_fits u r c costs = elim (range_by u r c costs) [
    | inl line ↦ omega (arith, line)
    | inr one ↦ omega (arith, intra_fits r.area one.0 u c one.1.reached)
  ]

  stub_states : (n b c : ℕ) (s : Stub) → HasStub net b n s → s.default_cost ≡ c → c ≤ stated_sum net
  stub_states n b c s has costs =
      let defaults = part_of_sum (λ (t : Stub). t.default_cost) has.config.stubs s has.among in
      omega (arith, costs, defaults, router_states b has.config has.router)

  -- a cost that comes of an area other than n
  record OfOtherArea (n c : ℕ) : Type 0 where
    area : ℕ
    other : area ≢ n
    most : c ≤ area_sum area + stated_sum net

  subnet_fits : (n : ℕ) (p : Block) (b c : ℕ) → SummarizesSubnet net n p b c → OfOtherArea n c
  subnet_fits n p b c s = record { area = s.area; other = s.other; most = omega (arith, intra_fits s.area p b c s.costs) }

  ranged_fits : (n : ℕ) (p : Block) (b c : ℕ) → SummarizesRange net n p b c → OfOtherArea n c
  ranged_fits n p b c s = record { area = s.range.area; other = s.other; most = range_fits b s.range c s.costs }

  backbone_fits : (p : Block) (b c : ℕ) → BackboneSummary net p b c → OfOtherArea 0 c
  backbone_fits p b c (BackboneSummary.of_subnet s) = subnet_fits 0 p b c s
  backbone_fits p b c (BackboneSummary.of_range s) = ranged_fits 0 p b c s

  other_fits : (n c d : ℕ) → OfOtherArea n c → d ≤ area_sum n → d + c ≤ ospf_cost_sum net
  other_fits n c d of walk = omega (arith, of.most, two_areas_fit of.area n of.other)

  border_fits : (p : Block) (u c : ℕ) → BorderCost net p u c → c ≤ ospf_cost_sum net
  border_fits p u c costs =
      let b = costs.best.at in
      let at = costs.best.attained in
      let of = backbone_fits p b at.asks at.offered.offered in
      omega (arith, at.costs, other_fits 0 at.asks at.walk of (walk_fits 0 u b at.walk at.reached))

  announced_into : (n : ℕ) (p : Block) (b c : ℕ) → AreaSummary net n p b c → c ≤ ospf_cost_sum net
  announced_into n p b c (AreaSummary.of_subnet some s) = omega (arith, other_fits n c 0 (subnet_fits n p b c s) (omega arith))
  announced_into n p b c (AreaSummary.of_range some s) = omega (arith, other_fits n c 0 (ranged_fits n p b c s) (omega arith))
  announced_into n p b c (AreaSummary.of_route some costs) = border_fits p b c costs
  announced_into n p b c (AreaSummary.of_stub border is s has costs) = omega (arith, stub_states n b c s has costs, area_fits n)

  announced_fits : (p : Block) (n b c : ℕ) → Summary net p n b c → c ≤ ospf_cost_sum net
  announced_fits p n b c (into_backbone s) = omega (arith, other_fits 0 c 0 (backbone_fits p b c s) (omega arith))
  announced_fits p n b c (into_area some s) = announced_into n p b c s

  -- a walk in an area to another router ends in the area
  arrives : (n u : ℕ) (legs : List Leg) (b : ℕ) → Walks (Adjacent net (Area n)) u legs b → b ≢ u → InArea net b n
  arrives n u [] b leads apart = absurd (apart (sym leads))
  arrives n u (leg ∷ legs) b leads apart = elim (cases_eq leg.to b) [
    | inl here ↦
        let last = leads.0 in
        subst (λ v. InArea net v n) here (record { interface = last.far; up = last.far_up; area = last.far_runs.0 })
    | inr further ↦ arrives n leg.to legs b leads.1 (λ e. further (sym e))
  ]

  -- no router that b reaches in area n offers q there
  abbrev NoneOffers : ℕ → ℕ → Block → Type 0
  NoneOffers n b q = (v asks : ℕ) → OffersSubnet net n q v asks → Reaches (Adjacent net (Area n)) b v → ⊥

  -- so it is where q has no route within the area at b, which is in it
  none_offers : (n b : ℕ) (q : Block) → InArea net b n → ((cost : ℕ) → IntraAreaCost net n q b cost → ⊥) → NoneOffers n b q
  none_offers n b q inside none v asks offered way =
      offered_has_best (Adjacent net (Area n)) (OffersSubnet net n q) b v asks way offered
      (λ cost best. none cost (record { inside = inside; best = best }))

  -- where ranges agree, a range that is active at one border router of its area is active at each that reaches its component
  component_apart : RangesAgree net → (p : Block) (b c : ℕ) (border : BorderCost net p b c) (at : ℕ) (r : Range) (q : Block)
      (d : ℕ) → InArea net b r.area → r.dest ≡ p → IsComponent net at r q d → NoneOffers r.area b q
  component_apart agree p b c border at r q d inside is component =
      none_offers r.area b q inside
      (λ cost costs.
      let own = agree at b r component.range border.border inside in
      border.no_range (record {
        range = own.range;
        active = record {
          dest = q;
          cost = cost;
          component = record {
            range = own.has;
            covered = subst (λ (o : Block). Covers o q) (sym own.dest_is) component.covered;
            reached = subst (λ m. IntraAreaCost net m q b cost) (sym own.area_is) costs;
            longest = λ other has same covers.
                let to_r : other.area ≡ r.area = same ∙ own.area_is in
                let in_other = subst (λ m. InArea net at m) (sym to_r) component.reached.inside in
                let theirs = agree b at other has component.range.border in_other in
                let covers_too = subst (λ (o : Block). Covers o q) (sym theirs.dest_is) covers in
                omega (
                  arith,
                  component.longest theirs.range theirs.has (theirs.area_is ∙ to_r) covers_too,
                  ap (λ (o : Block). o.len) theirs.dest_is,
                  ap (λ (o : Block). o.len) own.dest_is,
                );
          };
        };
        dest = own.dest_is ∙ is;
      }))

  -- a walk in area n, which isn't the backbone, to border router b
  module _ (n b d : ℕ) (far : n ≢ 0) (walk : ZoneCost net (Area n) b d) where
    -- then one in the backbone, and a cost within an area: of n too, where b doesn't reach what is offered there
    three_walks : (e m : ℕ) (q : Block) (at c : ℕ) → m ≢ 0 → e ≤ area_sum 0 → IntraAreaCost net m q at c →
        (m ≡ n → NoneOffers n b q) → d + (e + c) ≤ ospf_cost_sum net
    three_walks e m q at c beyond over costs apart = elim (cases_eq m n) [
      | inl same ↦
          let here : IntraAreaCost net n q at c = subst (λ k. IntraAreaCost net k q at c) same costs in
          let v = here.best.at in
          let end = here.best.attained in
          let both = both_within_zone net (Area n) b d v c walk (intra_cost n q at c here) (apart same v end.asks end.offered) in
          omega (arith, both, over, two_areas_fit n 0 far)
      | inr other ↦
          let fit = areas_fit net n 0 m far (λ z. other (sym z)) (λ z. beyond (sym z)) in
          omega (arith, within_zone net (Area n) b d walk, over, intra_fits m q at c costs, fit)
    ]

    backbone_route : RangesAgree net → InArea net b n → (p : Block) (e c : ℕ) (border : BorderCost net p b c) (at asks : ℕ) →
        e ≤ area_sum 0 → BackboneSummary net p at asks → d + (e + asks) ≤ ospf_cost_sum net
    backbone_route agree inside p e c border at asks over (BackboneSummary.of_subnet s) =
        three_walks e s.area p at asks s.other over s.costs
        (λ same. none_offers n b p inside (λ cost costs. border.no_intra (record { area = n; cost = cost; costs = costs })))
    backbone_route agree inside p e c border at asks over (BackboneSummary.of_range s) = elim (range_by at s.range asks s.costs) [
      | inl line ↦ omega (arith, within_zone net (Area n) b d walk, over, line, two_areas_fit n 0 far)
      | inr one ↦ three_walks e s.range.area one.0 at asks s.other over one.1.reached
          (λ same.
          let inside_too = subst (λ m. InArea net b m) (sym same) inside in
          let apart = component_apart agree p b c border at s.range one.0 asks inside_too s.dest one.1 in
          subst (λ m. NoneOffers m b one.0) same apart)
    ]

    area_route : RangesAgree net → InArea net b n → (p : Block) (c : ℕ) → AreaSummary net n p b c → d + c ≤ ospf_cost_sum net
    area_route agree inside p c (AreaSummary.of_subnet some s) =
        other_fits n c d (subnet_fits n p b c s) (within_zone net (Area n) b d walk)
    area_route agree inside p c (AreaSummary.of_range some s) =
        other_fits n c d (ranged_fits n p b c s) (within_zone net (Area n) b d walk)
    area_route agree inside p c (AreaSummary.of_route some costs) =
        let v = costs.best.at in
        let at = costs.best.attained in
        let over = walk_fits 0 b v at.walk at.reached in
        omega (arith, at.costs, backbone_route agree inside p at.walk c costs v at.asks over at.offered.offered)
    area_route agree inside p c (AreaSummary.of_stub border is s has costs) =
        omega (arith, within_zone net (Area n) b d walk, stub_states n b c s has costs, area_fits n)

  -- the walk of an inter-area cost, by what is announced where it ends
  summary_fits : RangesAgree net → (n : ℕ) (p : Block) (b d c : ℕ) → InArea net b n → ZoneCost net (Area n) b d →
      Summary net p n b c → d + c ≤ ospf_cost_sum net
  summary_fits agree n p b d c inside walk (into_backbone s) =
      other_fits 0 c d (backbone_fits p b c s) (within_zone net (Area 0) b d walk)
  summary_fits agree n p b d c inside walk (into_area far s) = area_route n b d far walk agree inside p c s

  inter_fits : RangesAgree net → (p : Block) (u c : ℕ) → InterAreaCost net p u c → c ≤ ospf_cost_sum net
  inter_fits agree p u c costs =
      let n = costs.area in
      let b = costs.best.at in
      let at = costs.best.attained in
      let inside = arrives n u at.reached.legs b at.reached.walk.leads at.offered.other in
      let walk = cost_of_walk net (Area n) u b at.walk at.reached in
      omega (arith, at.costs, summary_fits agree n p b at.walk at.asks inside walk at.offered.offered)

  -- without that, a walk is at most the sum, and so is what is announced where it ends
  pub inter_area_twice : (p : Block) (u c : ℕ) → InterAreaCost net p u c → c ≤ ospf_cost_sum net + ospf_cost_sum net
  inter_area_twice p u c costs =
      let n = costs.area in
      let b = costs.best.at in
      let at = costs.best.attained in
      let announced = announced_fits p n b at.asks at.offered.offered in
      omega (arith, at.costs, walk_fits n u b at.walk at.reached, area_fits n, announced)

  pub ospf_costs_at_most : (most : ℕ) → ospf_cost_sum net ≤ most → OspfCostsAreAtMost net most
  ospf_costs_at_most most fits = record {
    intra_area = λ n p u c costs. omega (arith, fits, intra_fits n p u c costs, area_fits n);
    range = λ u r c costs. omega (arith, fits, range_fits u r c costs, area_fits r.area);
    border = λ p u c costs. omega (arith, fits, border_fits p u c costs);
    announced = λ p n b c announced. omega (arith, fits, announced_fits p n b c announced);
    inter_area = λ agree p u c costs. omega (arith, fits, inter_fits agree p u c costs);
  }
