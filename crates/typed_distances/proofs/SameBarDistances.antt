-- The tables of two networks that are the same but for distances.
use Rattle.std.proofs.Common.{◌≡◌, ℕ, true, false, Contains, sym, ap, ◌∙◌, subst}
use Rattle.net_addr.specs.Addresses.{Block}
use Rattle.net_model.specs.Configuration.{Configuration}
use Rattle.net_model.specs.LevelSets.{has_level_one, has_level_two}
use Rattle.net_model.specs.Network.{Network, UpInterface, Connected, InArea, IsBorderRouter, Adjacent, MayJoin}
use Rattle.net_model.specs.declared.area.Range.{Range}
use Rattle.net_model.specs.declared.area.Stub.{Stub}
use Rattle.net_model.specs.declared.interface.Interface.{Interface}
use Rattle.net_model.specs.declared.zone.Zone.{Zone}
use Rattle.net_model.specs.declared.zone.Zone.TheVariants.{Area, One, Two}
use Rattle.route_core.specs.declared.entry.Entry.{Entry}
use Rattle.walk_core.specs.Offers.{Offers}
use Rattle.walk_core.proofs.WalkLaws.{SameArcs, SameOffers, best_cost_over, walks_over}
use Rattle.igp_theory.specs.Isis.{IsisEntry, level_one, level_two, down, default_route}
use Rattle.igp_theory.specs.Isis.{RunsLevelOne, RunsLevelTwo, OffersLevelOne, LevelOneCost, LevelOneHop, OffersLevelTwo}
use Rattle.igp_theory.specs.Isis.{LevelTwoAnnouncement, own, of_level_one, LevelTwoCost, LevelTwoHop, HasLevelOneRoute, HasLevelTwoRoute}
use Rattle.igp_theory.specs.Isis.{Leaks, DownAnnouncement, DownHop, HasDownRoute, IsAttached, OffersDefault, DefaultCost, DefaultHop}
use Rattle.igp_theory.specs.Ospf.{OspfEntry, intra_area, discard, inter_area, OffersSubnet, IntraAreaCost, IntraAreaHop, IsIntraArea}
use Rattle.igp_theory.specs.Ospf.{HasRange, IsComponent, IsActive, IsCompatible, RangeCost, stated, least, greatest}
use Rattle.igp_theory.specs.Ospf.{SummarizesSubnet, SummarizesRange, BackboneSummary, OfOthers, IsActiveRange, BorderCost}
use Rattle.igp_theory.specs.Ospf.{HasStub, IsTotallyStubby, AreaSummary, Summary, into_backbone, into_area, ListensTo, backbone, one_area}
use Rattle.igp_theory.specs.Ospf.{InterAreaCost, InterAreaHop}
use Rattle.equal_costs.proofs.SameTables.{best_hop_over, forwards_alike}
use Rattle.typed_distances.specs.TypedDistances.{HasBarDistances, AreSameBarDistances, TablesReadNoDistances}

pub flip : {net other : Network} → AreSameBarDistances net other → AreSameBarDistances other net
flip s = record { there = s.back; back = s.there }

-- offers of other routers are the same where all are
others_over : {offer others : Offers} (u : ℕ) → SameOffers offer others → SameOffers (OfOthers offer u) (OfOthers others u)
others_over u same at asks = (
  λ o. record { other = o.other; offered = (same at asks).0 o.offered },
  λ o. record { other = o.other; offered = (same at asks).1 o.offered },
)

-- ---- interfaces and adjacencies ----

module _ {net other : Network} (s : AreSameBarDistances net other) where
  up_over : (u : ℕ) (i : Interface) → UpInterface net u i → UpInterface other u i
  up_over u i x =
      let its : HasBarDistances other u x.config = s.there u x.config x.router in
      let same : its.config.interfaces ≡ x.config.interfaces = ap (λ (c : Configuration). c.interfaces) its.alike in
      record {
        config = its.config;
        router = its.router;
        among = subst (λ is. Contains is i) (sym same) x.among;
        up = x.up;
      }

  up_area : (u : ℕ) (i : Interface) (x : UpInterface net u i) → (up_over u i x).config.isis_area ≡ x.config.isis_area
  unfolding up_over
  up_area u i x =
      let its : HasBarDistances other u x.config = s.there u x.config x.router in ap (λ (c : Configuration). c.isis_area) its.alike

  pub connected_over : (u : ℕ) (p : Block) → Connected net u p → Connected other u p
  connected_over u p x = record { interface = x.interface; up = up_over u x.interface x.up; subnet = x.subnet }

  in_area_over : (u n : ℕ) → InArea net u n → InArea other u n
  in_area_over u n x = record { interface = x.interface; up = up_over u x.interface x.up; area = x.area }

  border_over : (u : ℕ) → IsBorderRouter net u → IsBorderRouter other u
  border_over u x = record {
    one = x.one;
    other = x.other;
    apart = x.apart;
    in_one = in_area_over u x.one x.in_one;
    in_other = in_area_over u x.other x.in_other;
  }

  adjacent_over : (zone : Zone) (u v cost : ℕ) → Adjacent net zone u v cost → Adjacent other zone u v cost
  adjacent_over zone u v cost x = record {
    apart = x.apart;
    subnet = x.subnet;
    near = x.near;
    far = x.far;
    near_up = up_over u x.near x.near_up;
    far_up = up_over v x.far x.far_up;
    near_subnet = x.near_subnet;
    far_subnet = x.far_subnet;
    near_link = x.near_link;
    far_link = x.far_link;
    near_runs = x.near_runs;
    far_runs = x.far_runs;
    joined = joined zone x.joined;
    costs = x.costs;
  }
    where
      joined : (z : Zone) → MayJoin z x.near_up.config x.far_up.config →
          MayJoin z (up_over u x.near x.near_up).config (up_over v x.far x.far_up).config
      joined (Area _) may = tt
      joined One may = up_area u x.near x.near_up ∙ may ∙ sym (up_area v x.far x.far_up)
      joined Two may = tt

-- the adjacencies are the same
same_adjacencies : {net other : Network} → AreSameBarDistances net other → (zone : Zone) → SameArcs (Adjacent net zone) (Adjacent other zone)
same_adjacencies s zone u v cost = (adjacent_over s zone u v cost, adjacent_over (flip s) zone u v cost)

-- ---- OSPF ----

module _ {net other : Network} (s : AreSameBarDistances net other) where
  subnet_over : (n : ℕ) (p : Block) (w cost : ℕ) → OffersSubnet net n p w cost → OffersSubnet other n p w cost
  subnet_over n p w cost x =
      record { interface = x.interface; up = up_over s w x.interface x.up; subnet = x.subnet; area = x.area; costs = x.costs }

same_subnets : {net other : Network} → AreSameBarDistances net other → (n : ℕ) (p : Block) → SameOffers (OffersSubnet net n p) (OffersSubnet other n p)
same_subnets s n p w cost = (subnet_over s n p w cost, subnet_over (flip s) n p w cost)

module _ {net other : Network} (s : AreSameBarDistances net other) where
  intra_cost_over : (n : ℕ) (p : Block) (u cost : ℕ) → IntraAreaCost net n p u cost → IntraAreaCost other n p u cost
  intra_cost_over n p u cost x = record {
    inside = in_area_over s u n x.inside;
    best = best_cost_over (same_adjacencies s (Area n)) (same_subnets s n p) x.best;
  }

  intra_hop_over : (p : Block) (u h : ℕ) → IntraAreaHop net p u h → IntraAreaHop other p u h
  intra_hop_over p u h x = record {
    area = x.area;
    inside = in_area_over s u x.area x.inside;
    best = best_hop_over (same_adjacencies s (Area x.area)) (same_subnets s x.area p) x.best;
  }

  intra_over : (p : Block) (u : ℕ) → IsIntraArea net p u → IsIntraArea other p u
  intra_over p u x = record { area = x.area; cost = x.cost; costs = intra_cost_over x.area p u x.cost x.costs }

  range_over : (u : ℕ) (r : Range) → HasRange net u r → HasRange other u r
  range_over u r x =
      let its : HasBarDistances other u x.config = s.there u x.config x.router in
      let same : its.config.ranges ≡ x.config.ranges = ap (λ (c : Configuration). c.ranges) its.alike in record {
        border = border_over s u x.border;
        config = its.config;
        router = its.router;
        among = subst (λ rs. Contains rs r) (sym same) x.among;
      }

  compatible_over : (u : ℕ) → (b : _) → IsCompatible net u b → IsCompatible other u b
  compatible_over u b x =
      let its : HasBarDistances other u x.config = s.there u x.config x.router in
      record { config = its.config; router = its.router; says = ap (λ (c : Configuration). c.rfc1583) its.alike ∙ x.says }

  stub_over : (b n : ℕ) (stub : Stub) → HasStub net b n stub → HasStub other b n stub
  stub_over b n stub x =
      let its : HasBarDistances other b x.config = s.there b x.config x.router in
      let same : its.config.stubs ≡ x.config.stubs = ap (λ (c : Configuration). c.stubs) its.alike in
      record { config = its.config; router = its.router; among = subst (λ xs. Contains xs stub) (sym same) x.among; area = x.area }

  stubby_over : (b n : ℕ) → IsTotallyStubby net b n → IsTotallyStubby other b n
  stubby_over b n x = record { stub = x.stub; has = stub_over b n x.stub x.has; alone = x.alone }

module _ {net other : Network} (s : AreSameBarDistances net other) where
  component_over : (u : ℕ) (r : Range) (p : Block) (cost : ℕ) → IsComponent net u r p cost → IsComponent other u r p cost
  component_over u r p cost x = record {
    range = range_over s u r x.range;
    covered = x.covered;
    reached = intra_cost_over s r.area p u cost x.reached;
    longest = λ q has. x.longest q (range_over (flip s) u q has);
  }

  active_over : (u : ℕ) (r : Range) → IsActive net u r → IsActive other u r
  active_over u r x = record { dest = x.dest; cost = x.cost; component = component_over u r x.dest x.cost x.component }

  active_range_over : (p : Block) (u : ℕ) → IsActiveRange net p u → IsActiveRange other p u
  active_range_over p u x = record { range = x.range; active = active_over u x.range x.active; dest = x.dest }

module _ {net other : Network} (s : AreSameBarDistances net other) where
  range_cost_over : (u : ℕ) (r : Range) (cost : ℕ) → RangeCost net u r cost → RangeCost other u r cost
  range_cost_over u r cost (stated says is) = stated says (active_over s u r is)
  range_cost_over u r cost (least says is p part below) =
      least says (compatible_over s u true is) p (component_over s u r p cost part)
      (λ q c has. below q c (component_over (flip s) u r q c has))
  range_cost_over u r cost (greatest says is p part above) =
      greatest says (compatible_over s u false is) p (component_over s u r p cost part)
      (λ q c has. above q c (component_over (flip s) u r q c has))

  of_subnet_over : (n : ℕ) (p : Block) (b cost : ℕ) → SummarizesSubnet net n p b cost → SummarizesSubnet other n p b cost
  of_subnet_over n p b cost x = record {
    border = border_over s b x.border;
    area = x.area;
    other = x.other;
    costs = intra_cost_over s x.area p b cost x.costs;
    alone = λ r c part. x.alone r c (component_over (flip s) b r p c part);
  }

  of_range_over : (n : ℕ) (p : Block) (b cost : ℕ) → SummarizesRange net n p b cost → SummarizesRange other n p b cost
  of_range_over n p b cost x = record {
    range = x.range;
    has = range_over s b x.range x.has;
    dest = x.dest;
    other = x.other;
    advertised = x.advertised;
    costs = range_cost_over b x.range cost x.costs;
  }

  into_backbone_over : (p : Block) (b cost : ℕ) → BackboneSummary net p b cost → BackboneSummary other p b cost
  into_backbone_over p b cost (BackboneSummary.of_subnet x) = BackboneSummary.of_subnet (of_subnet_over 0 p b cost x)
  into_backbone_over p b cost (BackboneSummary.of_range x) = BackboneSummary.of_range (of_range_over 0 p b cost x)

same_backbone : {net other : Network} → AreSameBarDistances net other → (p : Block) → SameOffers (BackboneSummary net p) (BackboneSummary other p)
same_backbone s p b cost = (into_backbone_over s p b cost, into_backbone_over (flip s) p b cost)

module _ {net other : Network} (s : AreSameBarDistances net other) where
  border_cost_over : (p : Block) (u cost : ℕ) → BorderCost net p u cost → BorderCost other p u cost
  border_cost_over p u cost x = record {
    border = border_over s u x.border;
    no_intra = λ is. x.no_intra (intra_over (flip s) p u is);
    no_range = λ is. x.no_range (active_range_over (flip s) p u is);
    best = best_cost_over (same_adjacencies s (Area 0)) (others_over u (same_backbone s p)) x.best;
  }

module _ {net other : Network} (s : AreSameBarDistances net other) where
  into_area_over : (n : ℕ) (p : Block) (b cost : ℕ) → AreaSummary net n p b cost → AreaSummary other n p b cost
  into_area_over n p b cost (AreaSummary.of_subnet open_area x) =
      AreaSummary.of_subnet (λ is. open_area (stubby_over (flip s) b n is)) (of_subnet_over s n p b cost x)
  into_area_over n p b cost (AreaSummary.of_range open_area x) =
      AreaSummary.of_range (λ is. open_area (stubby_over (flip s) b n is)) (of_range_over s n p b cost x)
  into_area_over n p b cost (AreaSummary.of_route open_area x) =
      AreaSummary.of_route (λ is. open_area (stubby_over (flip s) b n is)) (border_cost_over s p b cost x)
  into_area_over n p b cost (AreaSummary.of_stub border all stub has costs) =
      AreaSummary.of_stub (border_over s b border) all stub (stub_over s b n stub has) costs

  summary_over : (p : Block) (n b cost : ℕ) → Summary net p n b cost → Summary other p n b cost
  summary_over p _ b cost (into_backbone x) = into_backbone (into_backbone_over s p b cost x)
  summary_over p n b cost (into_area away x) = into_area away (into_area_over n p b cost x)

  listens_over : (u n : ℕ) → ListensTo net u n → ListensTo other u n
  listens_over u _ (backbone border) = backbone (border_over s u border)
  listens_over u n (one_area inner inside) = one_area (λ border. inner (border_over (flip s) u border)) (in_area_over s u n inside)

same_summaries : {net other : Network} → AreSameBarDistances net other → (p : Block) (n : ℕ) → SameOffers (Summary net p n) (Summary other p n)
same_summaries s p n b cost = (summary_over s p n b cost, summary_over (flip s) p n b cost)

module _ {net other : Network} (s : AreSameBarDistances net other) where
  inter_cost_over : (p : Block) (u cost : ℕ) → InterAreaCost net p u cost → InterAreaCost other p u cost
  inter_cost_over p u cost x = record {
    no_intra = λ is. x.no_intra (intra_over (flip s) p u is);
    no_range = λ is. x.no_range (active_range_over (flip s) p u is);
    area = x.area;
    listens = listens_over s u x.area x.listens;
    best = best_cost_over (same_adjacencies s (Area x.area)) (others_over u (same_summaries s p x.area)) x.best;
  }

  inter_hop_over : (p : Block) (u h : ℕ) → InterAreaHop net p u h → InterAreaHop other p u h
  inter_hop_over p u h x = record {
    area = x.area;
    listens = listens_over s u x.area x.listens;
    best = best_hop_over (same_adjacencies s (Area x.area)) (others_over u (same_summaries s p x.area)) x.best;
  }

module _ {net other : Network} (s : AreSameBarDistances net other) where
  pub ospf_over : (u : ℕ) (p : Block) (e : Entry) → OspfEntry net u p e → OspfEntry other u p e
  ospf_over u p e (intra_area away is forwards) =
      intra_area (λ c. away (connected_over (flip s) u p c)) (intra_over s p u is)
      (forwards_alike (IntraAreaHop net p u) (IntraAreaHop other p u) e (intra_hop_over s p u) (intra_hop_over (flip s) p u) forwards)
  ospf_over u p e (discard away no_intra active dropped) =
      discard (λ c. away (connected_over (flip s) u p c)) (λ is. no_intra (intra_over (flip s) p u is)) (active_range_over s p u active) dropped
  ospf_over u p e (inter_area away cost costs forwards) =
      inter_area (λ c. away (connected_over (flip s) u p c)) cost (inter_cost_over s p u cost costs)
      (forwards_alike (InterAreaHop net p u) (InterAreaHop other p u) e (inter_hop_over s p u) (inter_hop_over (flip s) p u) forwards)

-- ---- IS-IS ----

module _ {net other : Network} (s : AreSameBarDistances net other) where
  runs_one_over : (u : ℕ) → RunsLevelOne net u → RunsLevelOne other u
  runs_one_over u x =
      let its : HasBarDistances other u x.config = s.there u x.config x.router in record {
        config = its.config;
        router = its.router;
        isis = ap (λ (c : Configuration). c.isis) its.alike ∙ x.isis;
        level = ap (λ (c : Configuration). has_level_one c.levels) its.alike ∙ x.level;
      }

  runs_two_over : (u : ℕ) → RunsLevelTwo net u → RunsLevelTwo other u
  runs_two_over u x =
      let its : HasBarDistances other u x.config = s.there u x.config x.router in record {
        config = its.config;
        router = its.router;
        isis = ap (λ (c : Configuration). c.isis) its.alike ∙ x.isis;
        level = ap (λ (c : Configuration). has_level_two c.levels) its.alike ∙ x.level;
      }

  offers_one_over : (p : Block) (w cost : ℕ) → OffersLevelOne net p w cost → OffersLevelOne other p w cost
  offers_one_over p w cost x =
      record { interface = x.interface; up = up_over s w x.interface x.up; subnet = x.subnet; level = x.level; costs = x.costs }

  offers_two_over : (p : Block) (w cost : ℕ) → OffersLevelTwo net p w cost → OffersLevelTwo other p w cost
  offers_two_over p w cost x =
      record { interface = x.interface; up = up_over s w x.interface x.up; subnet = x.subnet; level = x.level; costs = x.costs }

same_level_one : {net other : Network} → AreSameBarDistances net other → (p : Block) → SameOffers (OffersLevelOne net p) (OffersLevelOne other p)
same_level_one s p w cost = (offers_one_over s p w cost, offers_one_over (flip s) p w cost)

module _ {net other : Network} (s : AreSameBarDistances net other) where
  cost_one_over : (p : Block) (u cost : ℕ) → LevelOneCost net p u cost → LevelOneCost other p u cost
  cost_one_over p u cost x = record { runs = runs_one_over s u x.runs; best = best_cost_over (same_adjacencies s One) (same_level_one s p) x.best }

  hop_one_over : (p : Block) (u h : ℕ) → LevelOneHop net p u h → LevelOneHop other p u h
  hop_one_over p u h x = record { runs = runs_one_over s u x.runs; best = best_hop_over (same_adjacencies s One) (same_level_one s p) x.best }

  has_one_over : (p : Block) (u : ℕ) → HasLevelOneRoute net p u → HasLevelOneRoute other p u
  has_one_over p u x = record { cost = x.cost; costs = cost_one_over p u x.cost x.costs }

  announced_over : (p : Block) (b cost : ℕ) → LevelTwoAnnouncement net p b cost → LevelTwoAnnouncement other p b cost
  announced_over p b cost (own runs x) = own (runs_two_over s b runs) (offers_two_over s p b cost x)
  announced_over p b cost (of_level_one runs x) = of_level_one (runs_two_over s b runs) (cost_one_over p b cost x)

same_announced : {net other : Network} → AreSameBarDistances net other → (p : Block) →
    SameOffers (LevelTwoAnnouncement net p) (LevelTwoAnnouncement other p)
same_announced s p b cost = (announced_over s p b cost, announced_over (flip s) p b cost)

module _ {net other : Network} (s : AreSameBarDistances net other) where
  cost_two_over : (p : Block) (u cost : ℕ) → LevelTwoCost net p u cost → LevelTwoCost other p u cost
  cost_two_over p u cost x = record {
    runs = runs_two_over s u x.runs;
    best = best_cost_over (same_adjacencies s Two) (others_over u (same_announced s p)) x.best;
  }

  hop_two_over : (p : Block) (u h : ℕ) → LevelTwoHop net p u h → LevelTwoHop other p u h
  hop_two_over p u h x = record {
    runs = runs_two_over s u x.runs;
    best = best_hop_over (same_adjacencies s Two) (others_over u (same_announced s p)) x.best;
  }

  has_two_over : (p : Block) (u : ℕ) → HasLevelTwoRoute net p u → HasLevelTwoRoute other p u
  has_two_over p u x = record { cost = x.cost; costs = cost_two_over p u x.cost x.costs }

  leaks_over : (u : ℕ) → Leaks net u → Leaks other u
  leaks_over u x =
      let its : HasBarDistances other u x.config = s.there u x.config x.router in record {
        runs_level_one = runs_one_over s u x.runs_level_one;
        runs_level_two = runs_two_over s u x.runs_level_two;
        config = its.config;
        router = its.router;
        leak = ap (λ (c : Configuration). c.leak) its.alike ∙ x.leak;
      }

module _ {net other : Network} (s : AreSameBarDistances net other) where
  down_over : (p : Block) (b cost : ℕ) → DownAnnouncement net p b cost → DownAnnouncement other p b cost
  down_over p b cost x = record {
    leaks = leaks_over s b x.leaks;
    away = λ c. x.away (connected_over (flip s) b p c);
    without_level_one = λ has. x.without_level_one (has_one_over (flip s) p b has);
    costs = cost_two_over s p b cost x.costs;
  }

  attached_over : (u : ℕ) → IsAttached net u → IsAttached other u
  unfolding runs_two_over
  attached_over u x =
      let its : HasBarDistances other x.far x.config = s.there x.far x.config x.router in
      let near : HasBarDistances other u x.runs_level_two.config = s.there u x.runs_level_two.config x.runs_level_two.router in record {
        runs_level_one = runs_one_over s u x.runs_level_one;
        runs_level_two = runs_two_over s u x.runs_level_two;
        far = x.far;
        legs = x.legs;
        walk = walks_over (λ a b c. adjacent_over s Two a b c) u x.legs x.far x.walk;
        config = its.config;
        router = its.router;
        other_area = λ same. x.other_area
            (sym (ap (λ (c : Configuration). c.isis_area) near.alike) ∙ same ∙ ap (λ (c : Configuration). c.isis_area) its.alike);
      }

  default_over : (b cost : ℕ) → OffersDefault net b cost → OffersDefault other b cost
  default_over b cost x = record { attached = attached_over b x.attached; costs = x.costs }

same_down : {net other : Network} → AreSameBarDistances net other → (p : Block) → SameOffers (DownAnnouncement net p) (DownAnnouncement other p)
same_down s p b cost = (down_over s p b cost, down_over (flip s) p b cost)

same_default : {net other : Network} → AreSameBarDistances net other → SameOffers (OffersDefault net) (OffersDefault other)
same_default s b cost = (default_over s b cost, default_over (flip s) b cost)

module _ {net other : Network} (s : AreSameBarDistances net other) where
  down_hop_over : (p : Block) (u h : ℕ) → DownHop net p u h → DownHop other p u h
  down_hop_over p u h x =
      record { runs = runs_one_over s u x.runs; best = best_hop_over (same_adjacencies s One) (others_over u (same_down s p)) x.best }

  has_down_over : (p : Block) (u : ℕ) → HasDownRoute net p u → HasDownRoute other p u
  has_down_over p u x = record {
    cost = x.cost;
    costs = record {
      runs = runs_one_over s u x.costs.runs;
      best = best_cost_over (same_adjacencies s One) (others_over u (same_down s p)) x.costs.best;
    };
  }

  default_cost_over : (u cost : ℕ) → DefaultCost net u cost → DefaultCost other u cost
  default_cost_over u cost x = record {
    runs = runs_one_over s u x.runs;
    alone = λ two. x.alone (runs_two_over (flip s) u two);
    best = best_cost_over (same_adjacencies s One) (same_default s) x.best;
  }

  default_hop_over : (u h : ℕ) → DefaultHop net u h → DefaultHop other u h
  default_hop_over u h x = record {
    runs = runs_one_over s u x.runs;
    alone = λ two. x.alone (runs_two_over (flip s) u two);
    best = best_hop_over (same_adjacencies s One) (same_default s) x.best;
  }

module _ {net other : Network} (s : AreSameBarDistances net other) where
  pub isis_over : (u : ℕ) (p : Block) (e : Entry) → IsisEntry net u p e → IsisEntry other u p e
  isis_over u p e (level_one away has forwards) =
      level_one (λ c. away (connected_over (flip s) u p c)) (has_one_over s p u has)
      (forwards_alike (LevelOneHop net p u) (LevelOneHop other p u) e (hop_one_over s p u) (hop_one_over (flip s) p u) forwards)
  isis_over u p e (level_two away no_one has forwards) =
      level_two (λ c. away (connected_over (flip s) u p c)) (λ is. no_one (has_one_over (flip s) p u is)) (has_two_over s p u has)
      (forwards_alike (LevelTwoHop net p u) (LevelTwoHop other p u) e (hop_two_over s p u) (hop_two_over (flip s) p u) forwards)
  isis_over u p e (down away no_one no_two has forwards) =
      down (λ c. away (connected_over (flip s) u p c)) (λ is. no_one (has_one_over (flip s) p u is))
      (λ is. no_two (has_two_over (flip s) p u is)) (has_down_over s p u has)
      (forwards_alike (DownHop net p u) (DownHop other p u) e (down_hop_over s p u) (down_hop_over (flip s) p u) forwards)
  isis_over u p e (default_route away no_one no_two no_down all cost costs forwards) =
      default_route (λ c. away (connected_over (flip s) u p c)) (λ is. no_one (has_one_over (flip s) p u is))
      (λ is. no_two (has_two_over (flip s) p u is)) (λ is. no_down (has_down_over (flip s) p u is)) all cost (default_cost_over s u cost costs)
      (forwards_alike (DefaultHop net u) (DefaultHop other u) e (default_hop_over s u) (default_hop_over (flip s) u) forwards)

pub tables_alike : TablesReadNoDistances
tables_alike net other s = (
  λ u p e within. (ospf_over s u p e, ospf_over (flip s) u p e),
  λ u p e within. (isis_over s u p e, isis_over (flip s) u p e),
)
