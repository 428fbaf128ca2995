-- What a design by costs settles for its network.
use Rattle.std.proofs.Common.{◌≡◌, ℕ, ◌<◌, ◌≤◌, ◌⊎◌, true, false, Bool, cond, List, [], ◌∷◌, Some, None, option_map, Contains, filter, map, get_or}
use Rattle.std.proofs.Common.{refl, sym, ap, ◌∙◌, subst, arith, inl, inr}
use Rattle.std.specs.Prelude.{is_some, unwrap_or}
use Rattle.std.proofs.lemmas.Bool.{and_parts, cases_lt, false≢true}
use Rattle.std.proofs.lemmas.List.Elements.{All-contains}
use Rattle.std.proofs.lemmas.Option.{get_or_from_slice_get, slice_get-get_or, slice_get_within}
use Rattle.net_model.specs.Configuration.{Configuration, IsConfiguration, IsInterface}
use Rattle.net_model.specs.Network.{HasConfiguration, Network}
use Rattle.net_model.specs.Refusals.{IsBelow, IsNetwork, NamesAscend}
use Rattle.net_model.specs.declared.config.Levels.{Levels}
use Rattle.net_model.specs.declared.config.Levels.TheVariants.{One, Two, Both}
use Rattle.net_model.specs.declared.interface.Interface.{Interface}
use Rattle.net_model.proofs.Members.{Contains-first, Contains-rest}
use Rattle.net_model.proofs.Names.{IsBelow-irrefl}
use Rattle.ios_lines.specs.Words.{Word}
use Rattle.ios_lines.specs.declared.bounds.TheConstants.{DEFAULT_METRIC}
use Rattle.toml.specs.Data.{Data, Members, no_members}
use Rattle.design_file.specs.Designs.{IsDesign, IsMetric, interface_said, interfaces_said, router_said, routers_said}
use Rattle.design_file.specs.Documents.{entries_of}
use Rattle.design_file.specs.NetworkFaults.{HasAddressed, IsNetworkFault, has_isis, no_interface, no_router}
use Rattle.design_file.specs.Values.{is_area, levels_named}
use Rattle.design_file.specs.Settling.{before_others, interface_named, router_named, settled_interfaces, settled_router, settled_routers}
use Rattle.design_file.specs.declared.design.Design.{Design}
use Rattle.design_file.specs.declared.design.DesignInterface.{DesignInterface}
use Rattle.design_file.specs.declared.design.DesignRouter.{DesignRouter}
use Rattle.design_file.specs.declared.settled.SettledInterface.{SettledInterface}
use Rattle.design_file.specs.declared.settled.SettledRouter.{SettledRouter}
use Rattle.design_file.proofs.MetricTables.{AllMembers, metric_is}
use Rattle.design_writer.specs.CostDesigns.{interface_by_cost, router_by_costs, settled_by_costs}
use Rattle.design_writer.specs.CostTables.{cost_data, document_by_costs, has_cost, level_text, router_data, with_interfaces, with_routers}
use Rattle.design_writer.proofs.CostLookups.{AreRoutersApart, at_interface, at_router, find_said, said_from}
use Rattle.design_writer.proofs.CostTables.{cost_is_metric, interfaces_hold, routers_hold}

-- the design that the document is
abbrev pub design_by_costs : Word → Levels → Network → Design
design_by_costs area levels net =
    record { area = area; levels = levels; metric = DEFAULT_METRIC; routers = routers_said (with_routers no_members net) }

levels_said : (levels : Levels) → levels_named (level_text levels) ≡ Some levels
levels_said One = refl
levels_said Both = refl
levels_said Two = refl

-- a router at a place of the network, and the other way round
at_place : (net : Network) (c : Configuration) (among : Contains net c) → HasConfiguration net among.0 c
at_place net c among = slice_get-get_or net among.0 c among.1 ∙ ap Some among.2

pub at_contains : (net : Network) (u : ℕ) (c : Configuration) → HasConfiguration net u c → Contains net c
at_contains net u c at = (u, slice_get_within net u c at, get_or_from_slice_get net u c c at)

-- what it says of an interface
abbrev cost_said : Word → ℕ → DesignInterface
cost_said name cost = interface_said name (entries_of (Some (cost_data cost)))

interface_found : (c : Configuration) → IsConfiguration c → (i : Interface) → Contains c.interfaces i →
    interface_named i.name (interfaces_said (with_interfaces no_members c.interfaces)) ≡ cond (has_cost i) (Some (cost_said i.name i.cost)) None
interface_found c is i among =
    find_said (λ (said : DesignInterface). said.name) (λ name value. interface_said name (entries_of (Some value))) (λ key value. refl) i.name
    (with_interfaces no_members c.interfaces)
    ∙ ap (option_map (λ value. interface_said i.name (entries_of (Some value))))
    (at_interface c.interfaces no_members is.interface_names (λ j inside. refl) i among)
    ∙ by (has_cost i)
  where
    by : (b : Bool) →
        option_map (λ value. interface_said i.name (entries_of (Some value))) (cond b (Some (cost_data i.cost)) None)
        ≡ cond b (Some (cost_said i.name i.cost)) None
    by true = refl
    by false = refl

-- what is settled for an interface, before others
settled_before : (i : Interface) (metric : ℕ) (others : List SettledInterface) → IsMetric i.cost →
    before_others metric i (cond (has_cost i) (Some (cost_said i.name i.cost)) None) others ≡ cond (has_cost i) (interface_by_cost i ∷ others) others
settled_before i metric others fine = by (is_some i.subnet) (is_some i.area) refl refl
  where
    by : (s a : Bool) → is_some i.subnet ≡ s → is_some i.area ≡ a →
        before_others metric i (cond (has_cost i) (Some (cost_said i.name i.cost)) None) others ≡ cond (has_cost i) (interface_by_cost i ∷ others) others
    by true true subnet area = rw (subnet, area, metric_is i.cost fine)
    by true false subnet area = rw (subnet, area)
    by false a subnet area = rw subnet

settled_all : (interfaces : List Interface) (metric : ℕ) (named : List DesignInterface) →
    ((i : Interface) → Contains interfaces i → interface_named i.name named ≡ cond (has_cost i) (Some (cost_said i.name i.cost)) None) →
    ((i : Interface) → Contains interfaces i → IsMetric i.cost) →
    settled_interfaces metric named interfaces ≡ map interface_by_cost (filter has_cost interfaces)
settled_all [] metric named found fine = refl
settled_all (i ∷ interfaces) metric named found fine =
    ap (λ own. before_others metric i own (settled_interfaces metric named interfaces)) (found i (Contains-first i interfaces))
    ∙ settled_before i metric (settled_interfaces metric named interfaces) (fine i (Contains-first i interfaces))
    ∙ ap (λ l. cond (has_cost i) (interface_by_cost i ∷ l) l)
    (settled_all interfaces metric named (λ j among. found j (Contains-rest i interfaces j among)) (λ j among. fine j (Contains-rest i interfaces j among)))
    ∙ by (has_cost i)
  where
    by : (b : Bool) →
        cond b (interface_by_cost i ∷ map interface_by_cost (filter has_cost interfaces)) (map interface_by_cost (filter has_cost interfaces))
        ≡ map interface_by_cost (cond b (i ∷ filter has_cost interfaces) (filter has_cost interfaces))
    by true = refl
    by false = refl

-- no two routers of a network have one name
pub routers_apart : (net : Network) → NamesAscend net → AreRoutersApart net
routers_apart net ascend i j d before within same =
    IsBelow-irrefl (get_or net i d).name (subst (IsBelow (get_or net i d).name) (sym same) (ascend i j d before within))

module _ (area : Word) (levels : Levels) (net : Network) (network : IsNetwork net) where
  abbrev tables : Members
  tables = with_routers no_members net

  is_configuration : (c : Configuration) → Contains net c → IsConfiguration c
  is_configuration c among = All-contains IsConfiguration net c network.configurations among

  router_found : (c : Configuration) → Contains net c → router_named c.name (routers_said tables) ≡ Some (router_said c.name (entries_of (Some (router_data c))))
  router_found c among =
      find_said (λ (said : DesignRouter). said.name) (λ name value. router_said name (entries_of (Some value))) (λ key value. refl) c.name tables
      ∙ ap (option_map (λ value. router_said c.name (entries_of (Some value)))) (at_router net no_members (routers_apart net network.ascending) c among)

  settled_one : (c : Configuration) → Contains net c →
      settled_router (design_by_costs area levels net) (router_named c.name (routers_said tables)) c ≡ router_by_costs area levels c
  settled_one c among =
      let is : IsConfiguration c = is_configuration c among in
      ap (λ own. settled_router (design_by_costs area levels net) own c) (router_found c among)
      ∙ ap (λ (l : List SettledInterface). record { area = area; levels = levels; leak = false; interfaces = l })
      (settled_all c.interfaces DEFAULT_METRIC (interfaces_said (with_interfaces no_members c.interfaces)) (interface_found c is)
      (λ i inside. cost_is_metric i (All-contains IsInterface c.interfaces i is.interfaces inside)))

  settled_each : (some : Network) → ((c : Configuration) → Contains some c → Contains net c) →
      map (λ (c : Configuration). settled_router (design_by_costs area levels net) (router_named c.name (routers_said tables)) c) some
      ≡ map (router_by_costs area levels) some
  settled_each [] inside = refl
  settled_each (c ∷ some) inside =
      ap (λ (r : SettledRouter). r ∷ map (λ (d : Configuration). settled_router (design_by_costs area levels net) (router_named d.name (routers_said tables)) d) some)
      (settled_one c (inside c (Contains-first c some)))
      ∙ ap (λ l. router_by_costs area levels c ∷ l) (settled_each some (λ d among. inside d (Contains-rest c some d among)))

  pub all_settled : settled_routers (design_by_costs area levels net) net ≡ settled_by_costs area levels net
  all_settled = settled_each net (λ c among. among)

  -- ---- nothing is wrong in the design for the network ----

  -- the table of one of its routers, and of one of a router's interfaces
  record IsOfRouter (name : Word) (d : Data) : Type 0 where
    config : Configuration
    among : Contains net config
    named : config.name ≡ name
    is : d ≡ router_data config

  record IsOfInterface (c : Configuration) (name : Word) (d : Data) : Type 0 where
    interface : Interface
    among : Contains c.interfaces interface
    named : interface.name ≡ name
    address : is_some interface.subnet ≡ true

  of_routers : AllMembers IsOfRouter tables
  of_routers = routers_hold IsOfRouter net no_members (λ c among. record { config = c; among = among; named = refl; is = refl }) tt

  of_interfaces : (c : Configuration) → AllMembers (IsOfInterface c) (with_interfaces no_members c.interfaces)
  of_interfaces c = interfaces_hold (IsOfInterface c) c.interfaces no_members
      (λ i among costs. record { interface = i; among = among; named = refl; address = (and_parts (is_some i.subnet) (is_some i.area) costs).0 }) tt

  router_of : (router : DesignRouter) → Contains (routers_said tables) router →
      (c : Configuration) × Contains net c × (router ≡ router_said c.name (entries_of (Some (router_data c))))
  router_of router among =
      let its = said_from IsOfRouter (λ name value. router_said name (entries_of (Some value))) tables of_routers router among in (
        its.holds.config,
        its.holds.among,
        sym its.is ∙ ap (λ name. router_said name (entries_of (Some its.value))) (sym its.holds.named)
            ∙ ap (λ value. router_said its.holds.config.name (entries_of (Some value))) its.holds.is,
      )

  -- two routers of one name are one
  one_router : (u : ℕ) (c config : Configuration) → Contains net c → HasConfiguration net u config → config.name ≡ c.name → config ≡ c
  one_router u c config among at same = by (cases_lt among.0 u) (cases_lt u among.0)
    where
      apart : AreRoutersApart net
      apart = routers_apart net network.ascending

      here : get_or net u c ≡ config
      here = get_or_from_slice_get net u config c at

      names : (get_or net among.0 c).name ≡ (get_or net u c).name
      names = ap (λ (d : Configuration). d.name) among.2 ∙ sym same ∙ ap (λ (d : Configuration). d.name) (sym here)

      by : (among.0 < u) ⊎ (u ≤ among.0) → (u < among.0) ⊎ (among.0 ≤ u) → config ≡ c
      by (inl before) after = absurd (apart among.0 u c before (slice_get_within net u config at) names)
      by (inr later) (inl before) = absurd (apart u among.0 c before among.1 (sym names))
      by (inr later) (inr before) = let place : u ≡ among.0 = omega (arith, later, before) in
          sym here ∙ ap (λ n. get_or net n c) place ∙ among.2

  pub faultless : ((c : Configuration) → Contains net c → c.isis ≡ false) → (f : _) → IsNetworkFault (design_by_costs area levels net) net f → ⊥
  faultless none f (no_router router among unknown e) =
      let its = router_of router among in
      let is : router.name ≡ its.0.name = ap (λ (r : DesignRouter). r.name) its.2 in
      unknown its.1.0 (record { config = its.0; router = at_place net its.0 its.1; name_is = sym is })
  faultless none f (no_interface router interface u config among inside at name unknown e) =
      let its = router_of router among in
      let same : config ≡ its.0 = one_router u its.0 config its.1 at (name ∙ ap (λ (r : DesignRouter). r.name) its.2) in
      let named = said_from (IsOfInterface its.0) (λ word value. interface_said word (entries_of (Some value)))
      (with_interfaces no_members its.0.interfaces) (of_interfaces its.0) interface
      (subst (λ (r : DesignRouter). Contains r.interfaces interface) its.2 inside) in
      unknown (subst (λ (c : Configuration). HasAddressed c interface.name) (sym same) (record {
        interface = named.holds.interface;
        among = named.holds.among;
        name_is = named.holds.named ∙ ap (λ (i : DesignInterface). i.name) named.is;
        address = named.holds.address;
      }))
  faultless none f (has_isis u config at is e) = false≢true (sym (none config (at_contains net u config at)) ∙ is)

  pub is_design : is_area area ≡ true → IsDesign (document_by_costs area levels net) (design_by_costs area levels net)
  is_design is = record {
    area = ap (λ b. cond b (Some area) None) is;
    levels = ap (λ o. unwrap_or o Two) (sym (levels_said levels));
    metric = refl;
    routers = refl;
  }
