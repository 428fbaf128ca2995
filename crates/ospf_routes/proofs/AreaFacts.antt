-- Areas: which there are, who is in them, who is a border router and who listens to whom.
use Rattle.std.proofs.lemmas.Grind.{common_steps}
use Rattle.std.proofs.Common.{◌≡◌, ◌≢◌, ℕ, ◌+◌, ◌<◌, ◌↔◌, inl, inr, ⊎_elim, List, [], ◌∷◌, ◌++◌, length, Option, Some, None, MatchOption, Bool, true, false}
use Rattle.std.proofs.Common.{not, ◌==◌, IsTrue, refl, sym, subst, ◌∙◌, arith, get_or}
use Rattle.std.proofs.lemmas.List.{get_or_default, get_or-map}
use Rattle.std.specs.List.{Contains, Any}
use Rattle.std.proofs.lemmas.Bool.{eqb-true, eqb-false, cases_eq, cases_lt, false≢true}
use Rattle.std.proofs.lemmas.Option.{none-some, same_Some, slice_get-get_or}
use Rattle.std.proofs.lemmas.List.Elements.{All-push, Contains-append_left, Contains-push, Contains-push_cases}
use Rattle.net_model.proofs.Adjacency.{UpInterface-among}
use Rattle.net_model.proofs.NetworkFacts.{InArea-within}
use Rattle.net_model.specs.Configuration.{Configuration}
use Rattle.net_model.specs.Network.{Network, HasConfiguration, InArea, IsBorderRouter, RunsArea}
use Rattle.net_model.specs.Refusals.{IsNetwork}
use Rattle.net_model.specs.declared.interface.Interface.{Interface}
use Rattle.net_model.specs.declared.zone.Zone.{Zone}
use Rattle.net_model.specs.declared.zone.Zone.TheVariants.{Area}
use Rattle.walk_core.specs.Reach.{Reach}
use Rattle.walk_core.specs.declared.segment.Port.{Port}
use Rattle.zone_graph.specs.Segments.{AreZoneSegments}
use Rattle.igp_theory.specs.Ospf.{ListensTo, backbone, one_area}
use Rattle.ospf_routes.specs.steps.AreaReach.{area_reach}
use Rattle.ospf_routes.specs.steps.Areas.{RunsOther, HasArea, IsAreaAt, AreAreas, AreJoinedAreas, IsArea, IsListener, IsListenerAt, IsReach}
use Rattle.ospf_routes.specs.AreaZones.{AreAreaZones, IsAreaOf, IsAreaZone}
use Rattle.ospf_routes.specs.Lists.{Adds, Exactly}
use Rattle.ospf_routes.specs.declared.areas.AreaWalks.{AreaWalks}
use Rattle.net_addr.proofs.SomeElement.{any_of, any_in}
use Rattle.route_tables.proofs.ListFacts.{exactly_same}
use Rattle.ospf_routes.proofs.SegmentFacts.{joined_more}
use Rattle.std.specs.List.{slice_get}
use Rattle.std.specs.Option.{IfNone, IfSome}

-- a router is in an area where one of its interfaces runs it
pub inside_is : (net : Network) (u n : ℕ) (config : Configuration) (given : List Interface) → HasConfiguration net u config → given ≡ config.interfaces →
    Any (RunsArea n) given ↔ InArea net u n
inside_is net u n config given router are = (
  λ any.
      let f = any_in (RunsArea n) given any in
      record {
        interface = f.item;
        up = record { config = config; router = router; among = subst (λ (l : List Interface). Contains l f.item) are f.among; up = f.holds.up };
        area = f.holds.area_is;
      },
  λ inside. any_of (RunsArea n) given inside.interface
      (subst (λ (l : List Interface). Contains l inside.interface) (sym are) (UpInterface-among net u config inside.interface router inside.up))
      (record { up = inside.up.up; area_is = inside.area }),
)

-- One more area

has_area_left : (areas : List AreaWalks) (a : AreaWalks) (n : ℕ) → HasArea areas n → HasArea (areas ++ a ∷ []) n
has_area_left areas a n has = record { area = has.area; among = Contains-append_left areas (a ∷ []) has.area has.among; number = has.number }

pub areas_more : (net : Network) (numbers : List ℕ) (areas : List AreaWalks) (a : AreaWalks) (segments own : List (List Port)) →
    AreJoinedAreas net numbers areas segments → IsArea net a → AreZoneSegments net (Area a.number) own →
    AreJoinedAreas net (numbers ++ a.number ∷ []) (areas ++ a ∷ []) (segments ++ own)
areas_more net numbers areas a segments own before is are = record {
  each = All-push (IsArea net) areas a before.each is;
  every = λ n has. ⊎_elim
      (λ earlier. has_area_left areas a n (before.every n earlier))
      (λ same. record { area = a; among = Contains-push areas a; number = same })
      (Contains-push_cases numbers a.number n has);
  join = joined_more net areas a segments own before.join are;
}

pub areas_of_numbers : (net : Network) (numbers given : List ℕ) (areas : List AreaWalks) (segments : List (List Port)) → IsNetwork net → given ≡ numbers →
    Exactly (IsAreaOf net) numbers → AreJoinedAreas net given areas segments → AreAreas net areas
areas_of_numbers net numbers given areas segments network same exact are = record {
  network = network;
  each = are.each;
  backbone = are.every 0 (subst (λ (l : List ℕ). Contains l 0) (sym same) ((exact 0).1 (inl refl)));
  every = λ u n inside. are.every n (subst (λ (l : List ℕ). Contains l n) (sym same) ((exact n).1 (inr (u, inside))));
}

-- The numbers of areas, router by router

pub record HaveNumbers (net : Network) (m : ℕ) (numbers : List ℕ) : Type 0 where
  pub backbone : Contains numbers 0
  pub every : (u n : ℕ) → u < m → InArea net u n → Contains numbers n
  pub only : (n : ℕ) → Contains numbers n → IsAreaOf net n

pub numbers_more : (net : Network) (m : ℕ) (config : Configuration) (given : List Interface) (old new : List ℕ) → HasConfiguration net m config →
    given ≡ config.interfaces → HaveNumbers net m old →
    Adds old new (λ n. Any (RunsArea n) given) → HaveNumbers net (m + 1) new
numbers_more net m config given old new router are before adds = record {
  backbone = (adds 0).1 (inl before.backbone);
  every = λ u n below inside. elim (cases_lt u m) [
    | inl less ↦ (adds n).1 (inl (before.every u n less inside))
    | inr last ↦
        let same : u ≡ m = omega arith in
        (adds n).1 (inr ((inside_is net m n config given router are).1 (subst (λ (k : ℕ). InArea net k n) same inside)))
  ];
  only = λ n has. ⊎_elim (before.only n) (λ here. inr (m, (inside_is net m n config given router are).0 here)) ((adds n).0 has);
}

pub numbers_all : (net : Network) (m : ℕ) (numbers : List ℕ) → length net ≡ m → HaveNumbers net m numbers → Exactly (IsAreaOf net) numbers
numbers_all net m numbers count have n = (
  have.only n,
  ⊎_elim
      (λ zero. subst (λ (k : ℕ). Contains numbers k) (sym zero) have.backbone)
      (λ some. let within : some.0 < length net = InArea-within net some.0 n some.1 in have.every some.0 n (omega arith) some.1),
)

-- the zones of these areas are those of the network's
pub zones_are : (net : Network) (numbers given : List ℕ) (zones : List Zone) → given ≡ numbers → Exactly (IsAreaOf net) numbers →
    Exactly (λ (z : Zone). Any (λ (n : ℕ). Area n ≡ z) given) zones → AreAreaZones net zones
zones_are net numbers given zones same exact are =
    exactly_same zones (λ (z : Zone). Any (λ (n : ℕ). Area n ≡ z) given) (IsAreaZone net) are (λ z. (
      λ any.
          let f = any_in (λ (n : ℕ). Area n ≡ z) given any in
          record { number = f.item; is = sym f.holds; area = (exact f.item).0 (subst (λ (l : List ℕ). Contains l f.item) same f.among) },
      λ is. any_of (λ (n : ℕ). Area n ≡ z) given is.number
          (subst (λ (l : List ℕ). Contains l is.number) (sym same) ((exact is.number).1 is.area)) (sym is.is),
    ))

-- Border routers

pub border_by_other : (net : Network) (u n : ℕ) (config : Configuration) (given : List Interface) → HasConfiguration net u config →
    given ≡ config.interfaces → Any (RunsArea n) given → Any (RunsOther n) given ↔ IsBorderRouter net u
border_by_other net u n config given router are here = (
  λ any.
      let f = any_in (RunsOther n) given any in
      record {
        one = n;
        other = f.holds.area;
        apart = λ same. f.holds.other (sym same);
        in_one = (inside_is net u n config given router are).0 here;
        in_other = (inside_is net u f.holds.area config given router are).0 (any_of (RunsArea f.holds.area) given f.item f.among f.holds.runs);
      },
  λ border. elim (cases_eq border.one n) [
    | inl same ↦ other_area border.other (λ also. border.apart (same ∙ sym also)) border.in_other
    | inr apart ↦ other_area border.one (λ same. absurd (omega arith)) border.in_one
  ],
)
  where
    other_area : (m : ℕ) → m ≢ n → InArea net u m → Any (RunsOther n) given
    other_area m apart inside =
        let f = any_in (RunsArea m) given ((inside_is net u m config given router are).1 inside) in
        any_of (RunsOther n) given f.item f.among (record { area = m; other = apart; runs = f.holds })

pub no_area_no_border : (net : Network) (u : ℕ) (config : Configuration) (given : List Interface) → HasConfiguration net u config →
    given ≡ config.interfaces → ((n : ℕ) → Any (RunsArea n) given → ⊥) → IsTrue false ↔ IsBorderRouter net u
no_area_no_border net u config given router are none = (
  λ no. absurd (false≢true no),
  λ border. absurd (none border.one ((inside_is net u border.one config given router are).1 border.in_one)),
)

-- Listening

pub inner_listens : (net : Network) (u : ℕ) (config : Configuration) (given : List Interface) (found : Option ℕ) → HasConfiguration net u config →
    given ≡ config.interfaces → (IsBorderRouter net u → ⊥) →
    MatchOption found ((n : ℕ) → Any (RunsArea n) given → ⊥) (λ n. Any (RunsArea n) given) → IsListener net u found
inner_listens net u config given None router are inner none = nowhere
  where
    nowhere : (m : ℕ) → ListensTo net u m → ⊥
    nowhere _ (backbone border) = inner border
    nowhere m (one_area _ inside) = none m ((inside_is net u m config given router are).1 inside)
inner_listens net u config given (Some m) router are inner here = one_area inner ((inside_is net u m config given router are).0 here)

-- The places of areas

-- the area that a router listens to is there
pub listened_area : (net : Network) (areas : List AreaWalks) (n u : ℕ) → AreAreas net areas → ListensTo net u n → HasArea areas n
listened_area net areas _ u are (backbone border) = are.backbone
listened_area net areas n u are (one_area _ inside) = are.every u n inside

pub listened_place_is : (net : Network) (areas : List AreaWalks) (u n : ℕ) (found : Option ℕ) → AreAreas net areas → ListensTo net u n →
    IfNone found (HasArea areas n → ⊥) → IfSome found (IsAreaAt areas n) → IsListenerAt net areas u found
listened_place_is net areas u n None are listens none some = absurd (none (listened_area net areas n u are listens))
listened_place_is net areas u n (Some zone) are listens none at = record { area = n; listens = listens; at = at }

-- the area at a place, as it is read
pub number_at : (areas : List AreaWalks) (n zone : ℕ) (a : AreaWalks) → IsAreaAt areas n zone → a ≡ get_or areas zone a → a.number ≡ n
number_at areas n zone a at here = grind (arith, common_steps, get_or_default)

pub area_is : (net : Network) (areas : List AreaWalks) (zone : ℕ) (a : AreaWalks) → AreAreas net areas → zone < length areas → a ≡ get_or areas zone a →
    IsArea net a
area_is net areas zone a are within here = subst (IsArea net) (sym here) (are.each zone a within)

-- as many walks as routers
pub reach_within : (net : Network) (areas : List AreaWalks) (u zone : ℕ) (a : AreaWalks) → AreAreas net areas → zone < length areas →
    a ≡ get_or areas zone a → u < length net → u < length a.walks.value
reach_within net areas u zone a are within here below = let walks = (area_is net areas zone a are within here).walks in omega (arith, walks.routers)

-- the walks from a router in the area at a place, as they are read
pub area_reach_read : (areas : List AreaWalks) (u zone : ℕ) (a : AreaWalks) → zone < length areas → a ≡ get_or areas zone a → u < length a.walks.value →
    slice_get a.walks.value u ≡ Some (area_reach areas u zone)
area_reach_read areas u zone a within here below = grind (arith, common_steps, get_or-map, slice_get-get_or)

pub reach_is : (net : Network) (areas : List AreaWalks) (n u zone : ℕ) (a : AreaWalks) (reach : Reach) → AreAreas net areas → IsAreaAt areas n zone →
    a ≡ get_or areas zone a → slice_get a.walks.value u ≡ Some reach → IsReach net n u reach
reach_is net areas n u zone a reach are at here read = grind (arith, common_steps, area_is, number_at)

-- Other areas

pub not_true : (b : Bool) → not b ≡ true → b ≡ false
not_true b e = grind (arith, common_steps)

apart_test : (a u : ℕ) (b : Bool) → (a == u) ≡ b → a ≢ u → not b ≡ true
apart_test a u b same apart = grind (arith, common_steps, eqb-true)

pub runs_other_some : (i : Interface) (n area : ℕ) → ((m : ℕ) → (Some area ≡ Some m) ↔ RunsArea m i) → IsTrue (not (area == n)) ↔ RunsOther n i
runs_other_some i n area is = (
  λ yes. record { area = area; other = eqb-false area n (not_true (area == n) yes); runs = (is area).0 refl },
  λ r.
      let same : area ≡ r.area = same_Some area r.area ((is r.area).1 r.runs) in
      apart_test area n (area == n) refl (λ e. r.other (sym same ∙ e)),
)

pub runs_other_none : (i : Interface) (n : ℕ) → ((m : ℕ) → (◌≡◌ {A = Option ℕ} None (Some m)) ↔ RunsArea m i) → IsTrue false ↔ RunsOther n i
runs_other_none i n none = (λ no. absurd (false≢true no), λ r. absurd (none-some r.area ((none r.area).1 r.runs)))
