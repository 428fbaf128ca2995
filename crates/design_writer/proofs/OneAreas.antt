-- A network of one OSPF area that is prepared with its design by costs has equal costs.
use Rattle.std.proofs.Common.{◌≡◌, ◌≢◌, ◌⊎◌, ℕ, ◌+◌, Bool, true, false, ◌&&◌, ◌||◌, cond, List, [], ◌∷◌, Option, Some, None, Contains}
use Rattle.std.proofs.Common.{option_map, filter, map, slice_get, refl, sym, ap, ◌∙◌, subst, inl, inr, true≢false}
use Rattle.std.specs.Prelude.{IsTrue, is_some, bytes_eq}
use Rattle.std.proofs.lemmas.Bool.{cases_Bool}
use Rattle.std.proofs.lemmas.List.Elements.{All-contains}
use Rattle.std.proofs.lemmas.Option.{same_Some, slice_get-map}
use Rattle.net_model.specs.Configuration.{Configuration, IsConfiguration, IsInterface}
use Rattle.net_model.specs.Network.{HasConfiguration, Network, UpInterface}
use Rattle.net_model.specs.Refusals.{IsNetwork, NamesAscend}
use Rattle.net_model.specs.declared.config.Levels.{Levels}
use Rattle.net_model.specs.declared.config.Levels.TheVariants.{Two}
use Rattle.net_model.specs.declared.interface.Interface.{Interface}
use Rattle.net_model.proofs.Members.{Contains-cases, Contains-first, Contains-map, Contains-none, Contains-rest}
use Rattle.ios_lines.specs.Words.{Word}
use Rattle.design_file.specs.declared.settled.SettledInterface.{SettledInterface}
use Rattle.design_file.specs.declared.settled.SettledRouter.{SettledRouter}
use Rattle.design_file.proofs.NetworkLookups.{same_text, text_is}
use Rattle.isis_writer.specs.Prepared.{numbered_from}
use Rattle.isis_writer.specs.PreparedConfigurations.{configuration_numbered, configuration_with, interface_by, prepared, prepared_interface, settled_for, with_router}
use Rattle.isis_writer.proofs.PreparedGrows.{number_is}
use Rattle.equal_costs.specs.EqualCosts.{HasEqualCosts, IsOneAreaAtEqualCosts}
use Rattle.equal_costs.proofs.SameStates.{states_are_sound}
use Rattle.equal_costs.proofs.SameTables.{same_tables}
use Rattle.design_writer.specs.CostDesigns.{interface_by_cost, router_by_costs, settled_by_costs}
use Rattle.design_writer.specs.CostTables.{has_cost}
use Rattle.design_writer.specs.OneAreaDesigns.{CostDesignsAreSound, CostDesignsKeepTables, IsOneOspfArea, prepared_by_costs}
use Rattle.design_writer.proofs.CostLookups.{AreNamedApart, first_apart, rest_apart}
use Rattle.design_writer.proofs.CostSettling.{at_contains}

-- ---- a router ----

-- each router of a network has a number by its name
numbered : (net : Network) (from : ℕ) (c : Configuration) → Contains net c → (u : ℕ) × (numbered_from from c.name net ≡ Some u)
numbered [] from c among = absurd (Contains-none c among)
numbered (d ∷ net) from c among =
    by (bytes_eq d.name c.name) refl (Contains-cases d net c among) (λ inside. numbered net (from + 1) c inside)
  where
    by : (b : Bool) → bytes_eq d.name c.name ≡ b → (d ≡ c) ⊎ Contains net c →
        (Contains net c → (u : ℕ) × (numbered_from (from + 1) c.name net ≡ Some u)) →
        (u : ℕ) × (cond b (Some from) (numbered_from (from + 1) c.name net) ≡ Some u)
    by true same where_it later = (from, refl)
    by false other (inl here) later =
        absurd (true≢false (sym (text_is d.name c.name (ap (λ (x : Configuration). x.name) here)) ∙ other))
    by false other (inr inside) later = later inside

-- the configuration of a router, prepared
record IsPreparedRouter (area : Word) (net : Network) (c : Configuration) : Type 0 where
  number : ℕ
  is : prepared net (settled_by_costs area Two net) c ≡ with_router number (router_by_costs area Two c) c

prepared_router : (area : Word) (net : Network) (c : Configuration) → NamesAscend net → Contains net c → IsPreparedRouter area net c
prepared_router area net c names among =
    let settled : List SettledRouter = settled_by_costs area Two net in
    let its = numbered net 0 c among in
    let at : HasConfiguration net its.0 c = number_is net c its.0 names among its.1 in
    let found : slice_get settled its.0 ≡ Some (router_by_costs area Two c) =
    slice_get-map (router_by_costs area Two) net its.0 ∙ ap (option_map (router_by_costs area Two)) at in
    record {
      number = its.0;
      is = ap (λ (n : Option ℕ). configuration_numbered settled n c) its.1
          ∙ ap (λ (r : Option SettledRouter). configuration_with its.0 r c) found;
    }

-- ---- an interface ----

text_apart : (a b : Word) → a ≢ b → bytes_eq a b ≡ false
text_apart a b apart = elim (cases_Bool (bytes_eq a b)) [ inl same ↦ absurd (apart (same_text a b same)) | inr other ↦ other ]

-- what is settled for another interface is passed over
passed_over : (j : Interface) (name : Word) (settled : List SettledInterface) → j.name ≢ name →
    settled_for name (interface_by_cost j ∷ settled) ≡ settled_for name settled
passed_over j name settled apart =
    ap (λ (b : Bool). cond b (Some (interface_by_cost j)) (settled_for name settled)) (text_apart j.name name apart)

none_settled : (name : Word) (interfaces : List Interface) → ((j : Interface) → Contains interfaces j → name ≢ j.name) →
    settled_for name (map interface_by_cost (filter has_cost interfaces)) ≡ None
none_settled name [] apart = refl
none_settled name (j ∷ interfaces) apart =
    by (has_cost j) (none_settled name interfaces (λ k inside. apart k (Contains-rest j interfaces k inside)))
  where
    by : (b : Bool) → settled_for name (map interface_by_cost (filter has_cost interfaces)) ≡ None →
        settled_for name (map interface_by_cost (cond b (j ∷ filter has_cost interfaces) (filter has_cost interfaces))) ≡ None
    by true rest =
        passed_over j name (map interface_by_cost (filter has_cost interfaces)) (λ same. apart j (Contains-first j interfaces) (sym same)) ∙ rest
    by false rest = rest

-- what is settled for an interface of a router
settled_cost : (interfaces : List Interface) → AreNamedApart interfaces → (i : Interface) → Contains interfaces i →
    settled_for i.name (map interface_by_cost (filter has_cost interfaces)) ≡ cond (has_cost i) (Some (interface_by_cost i)) None
settled_cost [] apart i among = absurd (Contains-none i among)
settled_cost (j ∷ interfaces) apart i among =
    by (has_cost j) refl (Contains-cases j interfaces i among) (settled_cost interfaces (rest_apart j interfaces apart) i)
  where
    rest : List SettledInterface
    rest = map interface_by_cost (filter has_cost interfaces)

    by : (b : Bool) → has_cost j ≡ b → (j ≡ i) ⊎ Contains interfaces i →
        (Contains interfaces i → settled_for i.name rest ≡ cond (has_cost i) (Some (interface_by_cost i)) None) →
        settled_for i.name (map interface_by_cost (cond b (j ∷ filter has_cost interfaces) (filter has_cost interfaces)))
        ≡ cond (has_cost i) (Some (interface_by_cost i)) None
    by true costs (inl here) later =
        subst (λ (k : Interface). settled_for k.name (interface_by_cost j ∷ rest) ≡ cond (has_cost k) (Some (interface_by_cost k)) None) here
        (ap (λ (b : Bool). cond b (Some (interface_by_cost j)) (settled_for j.name rest)) (text_is j.name j.name refl)
        ∙ sym (ap (λ (b : Bool). cond b (Some (interface_by_cost j)) None) costs))
    by false costs (inl here) later =
        subst (λ (k : Interface). settled_for k.name rest ≡ cond (has_cost k) (Some (interface_by_cost k)) None) here
        (none_settled j.name interfaces (first_apart j interfaces apart) ∙ sym (ap (λ (b : Bool). cond b (Some (interface_by_cost j)) None) costs))
    by true costs (inr inside) later = passed_over j i.name rest (first_apart j interfaces apart i inside) ∙ later inside
    by false costs (inr inside) later = later inside

up_stays : (levels : Levels) (o : Option SettledInterface) (i : Interface) → (interface_by levels o i).up ≡ i.up
up_stays levels None i = refl
up_stays levels (Some s) i = refl

area_stays : (levels : Levels) (o : Option SettledInterface) (i : Interface) → (interface_by levels o i).area ≡ i.area
area_stays levels None i = refl
area_stays levels (Some s) i = refl

or_true : (b : Bool) → (b || true) ≡ true
or_true true = refl
or_true false = refl

-- an interface that runs level 2 as it is settled for it by its cost, or none
equal_by_cost : (i : Interface) → IsInterface i → IsTrue i.up → i.level2 ≡ false →
    HasEqualCosts (interface_by Two (cond (has_cost i) (Some (interface_by_cost i)) None) i)
equal_by_cost i is up off = by (is_some i.subnet) (is_some i.area) refl refl
  where
    none : is_some i.area ≡ false → HasEqualCosts i
    none without = record {
      runs = (λ on. absurd (true≢false (sym on ∙ off)), λ area. absurd (true≢false (sym area ∙ without)));
      metric = λ area. absurd (true≢false (sym area ∙ without));
      passive = λ area _. absurd (true≢false (sym area ∙ without));
    }

    by : (s a : Bool) → is_some i.subnet ≡ s → is_some i.area ≡ a →
        HasEqualCosts (interface_by Two (cond (has_cost i) (Some (interface_by_cost i)) None) i)
    by true true subnet area =
        subst (λ (b : Bool). HasEqualCosts (interface_by Two (cond b (Some (interface_by_cost i)) None) i))
        (sym (ap (λ (b : Bool). b && is_some i.area) subnet ∙ area)) (record {
          runs = (λ _. area, λ _. or_true (i.loopback || i.ospf_passive));
          metric = λ _. refl;
          passive = λ _ link. ap (λ (b : Bool). b || i.ospf_passive) link;
        })
    by true false subnet area =
        subst (λ (b : Bool). HasEqualCosts (interface_by Two (cond b (Some (interface_by_cost i)) None) i))
        (sym (ap (λ (b : Bool). b && is_some i.area) subnet ∙ area)) (none area)
    by false a subnet area = absurd (true≢false (sym (is.subnet up) ∙ subnet))

-- ---- the network ----

module _ (isis_area : Word) (net : Network) (n : ℕ) (network : IsNetwork net) (one : IsOneOspfArea net n) where
  abbrev whole : Network
  whole = prepared_by_costs isis_area net

  -- a router of the prepared network is one of the network
  record IsOfRouter (u : ℕ) (d : Configuration) : Type 0 where
    config : Configuration
    router : HasConfiguration net u config
    number : ℕ
    is : with_router number (router_by_costs isis_area Two config) config ≡ d

  of_router : (u : ℕ) (d : Configuration) → HasConfiguration whole u d → IsOfRouter u d
  of_router u d at = by (slice_get net u) refl (sym (slice_get-map (prepared net (settled_by_costs isis_area Two net)) net u) ∙ at)
    where
      by : (o : Option Configuration) → slice_get net u ≡ o → option_map (prepared net (settled_by_costs isis_area Two net)) o ≡ Some d → IsOfRouter u d
      by None found is = absurd (true≢false (sym (ap is_some is)))
      by (Some c) found is =
          let its = prepared_router isis_area net c network.ascending (at_contains net u c found) in
          record {
            config = c;
            router = found;
            number = its.number;
            is = sym its.is ∙ same_Some (prepared net (settled_by_costs isis_area Two net) c) d is;
          }

  -- and an interface that is up there is one that is up
  record IsOfInterface (u : ℕ) (j : Interface) : Type 0 where
    interface : Interface
    up : UpInterface net u interface
    is : interface_by Two (cond (has_cost interface) (Some (interface_by_cost interface)) None) interface ≡ j

  of_interface : (u : ℕ) (j : Interface) → UpInterface whole u j → IsOfInterface u j
  of_interface u j up =
      let its = of_router u up.config up.router in
      let c : Configuration = its.config in
      let router : SettledRouter = router_by_costs isis_area Two c in
      let among : Contains (map (prepared_interface router) c.interfaces) j = subst (λ (d : Configuration). Contains d.interfaces j) (sym its.is) up.among in
      let from = Contains-map (prepared_interface router) c.interfaces j among in
      let i : Interface = from.item in
      let is = All-contains IsConfiguration net c network.configurations (at_contains net u c its.router) in
      let settled = settled_cost c.interfaces is.interface_names i from.among in
      let same = sym (ap (λ (o : Option SettledInterface). interface_by Two o i) settled) ∙ from.gives in
      let stays = up_stays Two (cond (has_cost i) (Some (interface_by_cost i)) None) i in
      record {
        interface = i;
        up = record {
          config = c;
          router = its.router;
          among = from.among;
          up = sym stays ∙ ap (λ (k : Interface). k.up) same ∙ up.up;
        };
        is = same;
      }

  equal_costs : IsOneAreaAtEqualCosts whole n
  equal_costs = record {
    one_area = λ u j up. let its = of_interface u j up in
        let i : Interface = its.interface in
        let stays = sym (area_stays Two (cond (has_cost i) (Some (interface_by_cost i)) None) i) ∙ ap (λ (k : Interface). k.area) its.is in
        subst (λ (area : Option ℕ). (area ≡ None) ⊎ (area ≡ Some n)) stays (one.one_area u i its.up);
    isis = λ u d at. let its = of_router u d at in
        (sym (ap (λ (x : Configuration). x.isis) its.is), sym (ap (λ (x : Configuration). x.levels) its.is));
    equal = λ u j up. let its = of_interface u j up in
        let i : Interface = its.interface in
        let c = All-contains IsConfiguration net its.up.config network.configurations (at_contains net u its.up.config its.up.router) in
        let is = All-contains IsInterface its.up.config.interfaces i c.interfaces its.up.among in
        subst HasEqualCosts its.is (equal_by_cost i is its.up.up (one.no_isis u i its.up));
  }

pub designs_keep_tables : CostDesignsKeepTables
designs_keep_tables net isis_area area network one = same_tables (prepared_by_costs isis_area net) area (equal_costs isis_area net area network one)

pub designs_are_sound : CostDesignsAreSound
designs_are_sound net isis_area area state network one after sound =
    states_are_sound (prepared_by_costs isis_area net) area state after (equal_costs isis_area net area network one) sound
